-- The parts of a sheet are put one by one: there is room for each, and together they are its bytes.
use Rattle.std.proofs.Common.{◌≡◌, ℕ, ◌+◌, ◌≤◌, List, [], ◌∷◌, ◌++◌, map, length, ap, ◌∙◌, append_assoc, arith, length-append}
use Rattle.std.proofs.lemmas.List.{append-nil}
use Rattle.std.proofs.lemmas.List.Folds.{flat_map-map}
use Rattle.fleet.specs.Lists.{market}
use Rattle.fleet.specs.Rankings.{listed}
use Rattle.policy.specs.Ranks.{ranks}
use Rattle.policy.specs.Seats.{seats}
use Rattle.policy.specs.Entries.{tables}
use Rattle.sheet.specs.declared.fields.Kind.TheVariants.{Counts, Worker, Ranked, Seated, Table, Quarantine}
use Rattle.sheet.specs.declared.sheet.Sheet.{Sheet}
use Rattle.sheet.specs.Sheets.{rows_of, worker_content, ranked_content, seated_content, table_content, written, encode}
use Rattle.sheet.specs.Says.{text}
use Rattle.sheet.specs.Encoding.{fields}
use Rattle.sheet.proofs.WorkerRows.{rows_count}
use Rattle.sheet.proofs.Short.{short}

-- six lists, one after the other, are as long as they are together
long : (a b c d e f : List ℕ) → length (a ++ (b ++ (c ++ (d ++ (e ++ f))))) ≡ length a + (length b + (length c + (length d + (length e + length f))))
long a b c d e f = simp length-append

regrouped : (a b c d e f : List ℕ) → ((((a ++ b) ++ c) ++ d) ++ e) ++ f ≡ a ++ (b ++ (c ++ (d ++ (e ++ f))))
regrouped a b c d e f = simp append_assoc

-- what was put makes it so much longer
grown : (before part : List ℕ) {all : List ℕ} → all ≡ before ++ part → length all ≡ length before + length part
grown before part e = ap length e ∙ length-append before part

module _ (s : Sheet) where
  -- the parts of the sheet, and what the program puts for them
  abbrev counts_by : ℕ → ℕ → List ℕ
  counts_by workers tenants = written Counts ((workers ∷ []) ++ (tenants ∷ []))

  abbrev workers_by : List ℕ → List ℕ
  workers_by classes = fields Worker (map worker_content (rows_of (market s.lists) classes s.lists.workers))

  abbrev counts : List ℕ
  counts = counts_by s.lists.workers s.lists.tenants

  abbrev workers : List ℕ
  workers = workers_by s.tenants.seated.common.classes

  abbrev ranked : List ℕ
  ranked = fields Ranked (map ranked_content (ranks s.tenants.ranked))

  abbrev seated : List ℕ
  seated = fields Seated (map seated_content (seats s.tenants.seated))

  abbrev written_down : List ℕ
  written_down = fields Table (map table_content (tables s.tenants.tables))

  abbrev last_by : List ℕ → List ℕ
  last_by slice = written Quarantine (slice ++ [])

  abbrev last : List ℕ
  last = last_by (listed s.quarantine)

  whole : counts ++ (workers ++ (ranked ++ (seated ++ (written_down ++ last)))) ≡ encode (text s)
  whole =
      rw (
        rows_count (market s.lists) s.tenants.seated.common.classes s.lists.workers,
        s.counted,
        append-nil (listed s.quarantine),
        flat_map-map (written Worker) worker_content (rows_of (market s.lists) s.tenants.seated.common.classes s.lists.workers),
        flat_map-map (written Ranked) ranked_content (ranks s.tenants.ranked),
        flat_map-map (written Seated) seated_content (seats s.tenants.seated),
        flat_map-map (written Table) table_content (tables s.tenants.tables),
      )

  lengths : length counts + (length workers + (length ranked + (length seated + (length written_down + length last)))) ≤ 5624
  lengths = omega (arith, short (text s) s.formed, ap length whole, long counts workers ranked seated written_down last)

  module _ {classes none a : List ℕ} {n m : ℕ} (named : classes ≡ s.tenants.seated.common.classes) (people : n ≡ s.lists.workers) (hosts : m ≡ s.lists.tenants)
      (empty : none ≡ []) (put-counts : a ≡ none ++ counts_by n m) where
    a_is : a ≡ counts
    a_is = rw (put-counts, empty, people, hosts)

    pub workers_room : length a + length (workers_by classes) ≤ 5624
    workers_room = rw (a_is, named) (omega (arith, lengths))

    module _ {b : List ℕ} (put-workers : b ≡ a ++ workers_by classes) where
      b_is : b ≡ a ++ workers
      b_is = rw (put-workers, named)

      pub ranked_room : length b + length ranked ≤ 5624
      ranked_room = omega (arith, lengths, ap length a_is, grown a workers b_is)

      module _ {c : List ℕ} (put-ranked : c ≡ b ++ ranked) where
        pub seated_room : length c + length seated ≤ 5624
        seated_room = omega (arith, lengths, ap length a_is, grown a workers b_is, grown b ranked put-ranked)

        module _ {d : List ℕ} (put-seated : d ≡ c ++ seated) where
          pub tables_room : length d + length written_down ≤ 5624
          tables_room = omega (arith, lengths, ap length a_is, grown a workers b_is, grown b ranked put-ranked, grown c seated put-seated)

          module _ {e slice : List ℕ} (put-tables : e ≡ d ++ written_down) (listing : slice ≡ listed s.quarantine) where
            pub quarantine_room : length e + length (last_by slice) ≤ 5624
            quarantine_room =
                omega (arith, lengths, ap length a_is, grown a workers b_is, grown b ranked put-ranked, grown c seated put-seated, grown d written_down put-tables, ap (λ (l : List ℕ). length (last_by l)) listing)

            pub all_there : {f : List ℕ} → f ≡ e ++ last_by slice → f ≡ encode (text s)
            all_there put-last = rw (put-last, put-tables, put-seated, put-ranked, b_is, a_is, listing) (regrouped counts workers ranked seated written_down last ∙ whole)
