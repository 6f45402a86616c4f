-- Only the classes are said otherwise: by the rows.
use Rattle.std.proofs.Common.{length, ap, ◌∙◌}
use Rattle.fleet.specs.Sets.{Set, among}
use Rattle.fleet.specs.Lists.{market}
use Rattle.fleet.specs.Rankings.{listed}
use Rattle.policy.specs.Choice.{Policy}
use Rattle.policy.specs.Combined.{joined, quarantined}
use Rattle.policy.specs.Kinds.{ranked_policy}
use Rattle.policy.specs.Tables.{table_policy}
use Rattle.policy.specs.Ranks.{ranks}
use Rattle.policy.specs.Seats.{seats}
use Rattle.policy.specs.Entries.{tables}
use Rattle.sheet.specs.Says.{policy_of}
use Rattle.sheet.proofs.Said.{class_said, seated_said}
use Rattle.sheet.proofs.sheets.policy_is_said.Goals as goal

pub returns : goal.returns
returns c =
    let s = c.args.sheet.now in
    let t = s.tenants in
    ap (λ (Q : Set). policy_of Q t.ranked t.seated t.tables) c.requires
    ∙ ap (λ (C : Policy). quarantined (among (listed s.quarantine)) (joined (length (ranks t.ranked)) (ranked_policy (ranks t.ranked)) (joined (length (seats t.seated)) C (table_policy (tables t.tables)))))
    (seated_said t.seated.common.classes _ (seats t.seated) (class_said (market s.lists) t.seated.common.classes s.lists.workers s.idle))
