-- To find the first number of a range that passes a test is to search upward for it.
use Rattle.std.proofs.Common.{◌≡◌, ℕ, Bool, Bor, Option, refl, sym, ◌∙◌, arith}
use Rattle.std.specs.Fn.{CalledAt}
use Rattle.std.specs.Iterator.{FindsItem}
use Rattle.std.specs.declared.ops.Range.{Range}
use Rattle.std.proofs.iter.Yields.{nat_range_steps}
use Rattle.std.proofs.lemmas.Iterator.{YieldsList-from_range}
use Rattle.std.proofs.lemmas.Iterator.Adapters.{option_map_id}
use Rattle.std.proofs.lemmas.Iterator.Search.{find_from_yields_List}
use denote.Param.Members.{Mut}
use Rattle.policy.specs.Search.{seek}
use Rattle.policy.specs.Searches.{seek_in_range}

pub seek_from_find : {F : Type 0} {g : Mut F (Bor ℕ × Unit {0}) Bool} (n : ℕ) (p : ℕ → Bool) (u : Range ℕ) (f : F) (found : Option ℕ) →
    FindsItem nat_range_steps g (record { start = 0; end = n }) f found u → ((x : ℕ) (b : Bool) (q : F) → CalledAt g f x b q → (q ≡ f) × (b ≡ p x)) → found ≡ seek n 0 p
seek_from_find n p u f found ran computes =
    sym (option_map_id found) ∙ find_from_yields_List p u f found ran (YieldsList-from_range 0 n n refl (omega arith)) computes ∙ seek_in_range p n 0
