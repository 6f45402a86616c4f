-- Entries without a fault are lawful, and what a table without a fault is.
use Rattle.std.specs.Prelude.{◌≡◌, ℕ, ◌^◌, ◌≤◌, Bool, true, false, cond, List, length, is_some, Some, None, Option, ◌==◌, nat_lt, refl}
use Rattle.std.proofs.lemmas.Bool.{true≢false, ltb-false, eqb-true}
use Rattle.policy.specs.Search.{seek, seek_pair, Least, LeastPair}
use Rattle.policy.specs.Tables.{outside, LawfulEntries}
use Rattle.policy.specs.Faults.{breaks, or_outside, or_broken, law_fault, entries_fault, table_fault}
use Rattle.policy.specs.declared.fault.TableLaw.TheVariants.{Substitutability, Monotonicity, Consistency}
use Rattle.policy.specs.declared.fault.TableFault.TheVariants.{Workers, Entries}
use Rattle.policy.specs.Searches.{seek_least, seek_pair_least}

pub faultless_entries : (n : ℕ) (es : List ℕ) → is_some (entries_fault n es) ≡ false → LawfulEntries n es
faultless_entries n es =
    go (seek n 0 (outside es)) (seek_least n (outside es))
    (seek_pair n 0 n (breaks Substitutability es)) (seek_pair_least n (breaks Substitutability es))
    (seek_pair n 0 n (breaks Monotonicity es)) (seek_pair_least n (breaks Monotonicity es))
  where
    go : (a : Option ℕ) → Least n (outside es) a → (b : Option (ℕ × ℕ)) → LeastPair n (breaks Substitutability es) b →
        (c : Option (ℕ × ℕ)) → LeastPair n (breaks Monotonicity es) c →
        is_some (or_outside a (or_broken Substitutability b (or_broken Monotonicity c (law_fault Consistency n es None)))) ≡ false → LawfulEntries n es
    go (Some z) a b p c q h = absurd (true≢false h)
    go None a (Some z) p c q h = absurd (true≢false h)
    go None a None p (Some z) q h = absurd (true≢false h)
    go None a None p None q h = record { inside = a; substitutable = λ z y l m. p z y l m; monotone = λ z y l m. q z y l m }

-- a table without a fault has at most eight workers, as many entries as they have sets, and lawful entries
pub record Faultless (ws es : List ℕ) : Type 0 where
  pub few : length ws ≤ 8
  pub enough : length es ≡ 2 ^ length ws
  pub lawful : LawfulEntries (2 ^ length ws) es

pub faultless : (ws es : List ℕ) → is_some (table_fault ws es) ≡ false → Faultless ws es
faultless ws es = go (nat_lt 8 (length ws)) refl (length es == 2 ^ length ws) refl
  where
    go : (a : Bool) → nat_lt 8 (length ws) ≡ a → (b : Bool) → (length es == 2 ^ length ws) ≡ b →
        is_some (cond a (Some Workers) (cond b (entries_fault (length es) es) (Some Entries))) ≡ false → Faultless ws es
    go true p b q h = absurd (true≢false h)
    go false p false q h = absurd (true≢false h)
    go false p true q h =
        let e = eqb-true (length es) (2 ^ length ws) q in
        record { few = ltb-false 8 (length ws) p; enough = e; lawful = rw e at (faultless_entries (length es) es h) }
