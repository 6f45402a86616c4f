-- How a sheet settles.
use Rattle.std.specs.Prelude.{length}
use Rattle.sheet.specs.Sheets.{SheetText}
use Rattle.sheet.specs.Says.{market_said, policy_said}
use Rattle.matching.specs.Entries.{tabulate}
use Rattle.matching.specs.Settling.{settled_placement, settled_rounds}
use Rattle.report.specs.declared.settlement.Settlement.{Settlement}

-- how the market and the policy that a sheet says settle
abbrev pub settlement_of : SheetText → Settlement
settlement_of s = record {
  workers = length s.workers;
  rounds = settled_rounds (market_said s) (policy_said s);
  places = tabulate 64 (settled_placement (market_said s) (policy_said s));
}
