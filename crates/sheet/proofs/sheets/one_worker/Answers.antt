-- One worker and one ranked tenant, with empty lists, are a well-formed sheet.
use Rattle.std.proofs.Common.{◌≡◌, ℕ, ◌≤◌, true, List, [], ◌∷◌, get_or, replicate, Ok, Result, sym, refl, ap, ◌∙◌, ap₂}
use Rattle.std.proofs.lemmas.Bool.{le-leb}
use Rattle.fleet.specs.Market.{Market}
use Rattle.fleet.specs.Lists.{market, no_lists, new_answer}
use Rattle.fleet.specs.Rankings.{listed}
use Rattle.fleet.specs.declared.lists.Lists.{Lists}
use Rattle.fleet.specs.declared.ranking.Ranking.{Ranking}
use Rattle.policy.specs.Kinds.{RankedRule, SeatedRule}
use Rattle.policy.specs.Tables.{TableRule}
use Rattle.policy.specs.Ranks.{ranks}
use Rattle.policy.specs.Seats.{seats}
use Rattle.policy.specs.Entries.{tables}
use Rattle.sheet.specs.declared.tenants.Tenants.{Tenants}
use Rattle.sheet.specs.Sheets.{rows_of, tenants_in, well_formed}
use Rattle.sheet.specs.Texts.{text_of}
use Rattle.sheet.specs.Says.{one_worker_text}
use Rattle.sheet.proofs.Lists.{zeros}
use Rattle.sheet.proofs.sheets.one_worker.Goals as goal

module _ (l : Lists) (t : Tenants) (q : Ranking 64) (n : ℕ) (none : market l ≡ no_lists 1 1) (one : ranks t.ranked ≡ record { «cap» = n; list = [] } ∷ [])
    (seated : seats t.seated ≡ []) (written : tables t.tables ≡ []) (classes : t.seated.common.classes ≡ replicate 64 0) (free : listed q ≡ []) where
  said : text_of l t q ≡ one_worker_text n
  said =
      ap₂ (λ (m : Market) (c : List ℕ). record { workers = rows_of m c m.workers; ranked = ranks t.ranked; seated = seats t.seated; tables = tables t.tables; quarantine = listed q }) none classes
      ∙ ap₂ (λ (r : List RankedRule) (s : List SeatedRule). record { workers = record { class = 0; list = [] } ∷ []; ranked = r; seated = s; tables = tables t.tables; quarantine = listed q }) one seated
      ∙ ap₂ (λ (w : List TableRule) (f : List ℕ). record { workers = record { class = 0; list = [] } ∷ []; ranked = record { «cap» = n; list = [] } ∷ []; seated = []; tables = w; quarantine = f }) written free

  counted : l.tenants ≡ tenants_in (text_of l t q)
  counted = ap (λ (m : Market). m.tenants) none ∙ sym (ap tenants_in said)

  formed : n ≤ 64 → well_formed (text_of l t q) ≡ true
  formed h = ap well_formed said ∙ rw (le-leb n 64 h) refl

idle : (t : Tenants) {n : ℕ} → t.seated.common.classes ≡ replicate 64 0 → (w : ℕ) → n ≤ w → get_or t.seated.common.classes w 0 ≡ 0
idle t e w h = ap (λ (l : List ℕ). get_or l w 0) e ∙ zeros 64 w

made_lists : (m k : Market) → ◌≡◌ {A = Result Market ℕ} (Ok m) (Ok k) → m ≡ k
made_lists m k e = cc

pub invariant_of-result : goal.invariant_of-result
invariant_of-result c =
    let l = c.unwrap.result in
    let t = c.one_tenant.result in
    let told = c.one_tenant.ensures in
    let none = made_lists (market l) (no_lists 1 1) (sym (ap new_answer c.unwrap.ensures) ∙ c.new.ensures) in record { counted = counted l t c.empty.result c.args.«cap» none told.ranked told.others.0 told.others.1 told.classes c.empty.ensures; idle = idle t told.classes; formed = formed l t c.empty.result c.args.«cap» none told.ranked told.others.0 told.others.1 told.classes c.empty.ensures c.requires }

pub returns : goal.returns
returns c =
    let l = c.unwrap.result in
    let told = c.one_tenant.ensures in
    said l c.one_tenant.result c.empty.result c.args.«cap» (made_lists (market l) (no_lists 1 1) (sym (ap new_answer c.unwrap.ensures) ∙ c.new.ensures)) told.ranked told.others.0 told.others.1 told.classes c.empty.ensures
