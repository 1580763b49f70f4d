-- Each return is one way through the definition.
use Rattle.std.proofs.Common.{ap, arith}
use Rattle.ids.specs.Acts.{retired_in}
use Rattle.ids.specs.AddLaws.{append_3, append_0}
use Rattle.ids.specs.ReadingLaws.{destination_well}
use Rattle.ids_state.proofs.Laws.{facts}
use Rattle.ids.proofs.adds.append_step.Goals as goal

pub returns-then-capacity_for-s : goal.returns-then-capacity_for-s
returns-then-capacity_for-s c = append_3 c.args.f.ids.now c.args.f.well c.args.x (omega (arith, c.if-capacity_for-s.true, c.capacity_for.ensures)) _ c.unchanged.ensures

pub append-requires : goal.append-requires
append-requires c =
    (destination_well c.args.f.ids.now c.args.f.well, omega (arith, c.if-capacity_for-s.false, c.capacity_for.ensures, (facts c.args.f.ids.now c.args.f.well).bounds.dcid_limit_most))

pub returns : goal.returns
returns c =
    append_0 c.args.f.ids.now c.args.f.well c.args.x c.requires (omega (arith, c.if-capacity_for-s.false, c.capacity_for.ensures)) _ c.append.ensures _ (ap (retired_in c.args.f.ids.now) c.no_pairs.ensures)
