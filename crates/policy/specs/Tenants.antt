-- The policy of a roster's tenants keeps the laws.
use Rattle.std.specs.Prelude.{◌≡◌, length, Some, None, Option}
use Rattle.std.proofs.Common.{arith, sym, ap, subst, ◌∙◌}
use Rattle.std.specs.List.{slice_get}
use Rattle.std.specs.Option.{option_map}
use Rattle.std.proofs.lemmas.Option.{slice_get-map, slice_get_past}
use Rattle.std.proofs.lemmas.List.{length-map, length-take-le}
use Rattle.policy.specs.Choice.{Choice, Lawful, KeepsLaws}
use Rattle.policy.specs.Kinds.{choice_of, by_number}
use Rattle.policy.specs.Rosters.{held, rules}
use Rattle.policy.specs.declared.roster.Roster.{Roster}
use Rattle.policy.specs.Combine.{nobody_lawful}

module _ {T C R : Type 0} (rule : T → R) (r : Roster T C) where
  -- there are as many rules as tenants
  counted : r.count ≡ length (rules rule r)
  counted = sym (length-map (held r) rule ∙ length-take-le r.count r.tenants (omega arith))

  pub roster_keeps : (choice : R → Choice) → ((t : T) → Lawful (choice (rule t))) → KeepsLaws (length (rules rule r)) (by_number choice (rules rule r))
  roster_keeps choice each = record {
    few = omega (arith, counted);
    laws = λ t. subst Lawful (ap (choice_of choice) (sym (slice_get-map rule (held r) t))) (lawful (slice_get (held r) t));
    past = λ t h Z. ap (λ (o : Option R). choice_of choice o Z) (slice_get_past (rules rule r) t h);
  }
    where
      lawful : (o : Option T) → Lawful (choice_of choice (option_map rule o))
      lawful (Some t) = each t
      lawful None = nobody_lawful
