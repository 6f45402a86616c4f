-- One worker more, or its fault.
use Rattle.std.proofs.Common.{◌≡◌, ℕ, ◌+◌, ◌-◌, true, ltb, ◌≢◌, List, set, Ok, sym, refl, ap, ◌∙◌, ap₂, arith, length-set, rules}
use Rattle.std.proofs.lemmas.List.{get_or-set_other}
use Rattle.std.proofs.lemmas.Result.{err_from_is_err_and}
use Rattle.std.proofs.lemmas.Bool.{and_parts, ltb-true}
use Rattle.fleet.specs.Sets.{all_under}
use Rattle.fleet.specs.Market.{Market, different}
use Rattle.fleet.specs.Lists.{market, with_list}
use Rattle.fleet.specs.Rankings.{listed}
use Rattle.sheet.specs.Framing.{input, place_after}
use Rattle.sheet.specs.Sheets.{WorkerRow, is_list}
use Rattle.sheet.specs.Reading.{worker_due, read_workers, crew_text}
use Rattle.sheet.proofs.Lists.{under_set, zeros}
use Rattle.sheet.proofs.Crew.{list_set, crew_more, workers_fault}
use Rattle.sheet.proofs.reading.read_workers.Goals as goal

pub loop-worker-preserved : goal.loop-worker-preserved
loop-worker-preserved c =
    let n = c.args.size.workers in
    let w = c.loop-worker.worker in
    let bytes = input c.args.reader.now in
    let place = c.loop-worker.reader.place in
    let classes = c.loop-worker.classes in
    let m = market c.loop-worker.lists in
    let before = c.loop-worker.invariant in
    let read = c.in_ok-class.ensures in
    let row : WorkerRow = record { class = c.in_ok-class.class; list = listed c.in_ok-class.list } in
    let good = and_parts (ltb row.class 8) (is_list c.args.size.tenants row.list) read.good in
    let under : all_under m.tenants row.list ≡ true =
    ap (λ (t : ℕ). all_under t row.list) before.4 ∙ (and_parts (all_under c.args.size.tenants row.list) (different row.list) good.1).0 in
    let due : worker_due c.args.size bytes place ≡ Ok row = ap (λ (b : List ℕ). worker_due c.args.size b place) (sym before.0) ∙ sym read.value in
    let next : c.read_worker.new.reader.place ≡ place_after bytes place = read.place ∙ ap (λ (b : List ℕ). place_after b place) before.0 in
    let after : market c.set.new.self ≡ with_list m w row.list = c.set.ensures.after ∙ list_set m w row.list (omega arith) under in (
      read.input ∙ before.0,
      length-set classes w row.class ∙ before.1,
      under_set 8 classes w row.class before.2 (ltb-true row.class 8 good.0),
      ap (λ (x : Market). x.workers) after ∙ before.3,
      ap (λ (x : Market). x.tenants) after ∙ before.4,
      before.5 ∙ crew_more n w c.args.size bytes m classes place row (omega arith) (omega arith) due
          ∙ ap₂ (λ (p : ℕ) (x : Market). read_workers (n - (w + 1)) c.args.size bytes (record { place = p; lowest = 3; text = crew_text x (set classes w row.class) (w + 1) })) (sym next) (sym after),
      λ v h. let other : v ≢ w = omega arith in get_or-set_other classes w v row.class 0 other ∙ before.6 v (omega arith),
    )

pub returns-in_err-class-clause-value : goal.returns-in_err-class-clause-value
returns-in_err-class-clause-value c =
    let w = c.loop-worker.worker in
    let bytes = input c.args.reader.now in
    let place = c.loop-worker.reader.place in
    let before = c.loop-worker.invariant in
    let due = ap (λ (b : List ℕ). worker_due c.args.size b place) (sym before.0) ∙ sym c.in_err-class.ensures.value in
    let whole = before.5 ∙ workers_fault c.args.size.workers w c.args.size bytes (record { place = place; lowest = 3; text = crew_text (market c.loop-worker.lists) c.loop-worker.classes w }) _ (omega arith) due in
    let p = err_from_is_err_and c.from_residual.result c.from_residual.ensures.1 in
    rw (p.1, p.2) (sym whole)

pub loop-worker-init : goal.loop-worker-init
loop-worker-init c = (refl, refl, refl, search rules, search rules, search rules, λ w h. zeros 64 w)
