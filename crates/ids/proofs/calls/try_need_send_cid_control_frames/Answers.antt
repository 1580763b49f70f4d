-- A queue has an entry where its list has one.
use Rattle.std.specs.Prelude.{true, false, not, ◌||◌, eqb}
use Rattle.std.proofs.Common.{ap, ◌∙◌}
use Rattle.ids.specs.CallLaws.{chosen, any_entry}
use Rattle.ids.specs.ReadLaws.{passes}
use Rattle.ids.specs.Reading.{view, flagged_of}
use Rattle.ids_rules.specs.Calls.{reply, NeedSendCidControlFrames}
use Rattle.ids_state.specs.declared.state.Ids.{Ids}
use Rattle.values.specs.Answers.{flagged_at}
use Rattle.ids.proofs.calls.try_need_send_cid_control_frames.Goals as goal

pub returns : goal.returns
returns c =
    let s = c.args.s.now in
    let w = c.in_ok-ids.ensures in
    ap (λ (u : Ids). flagged_at 0 (not (eqb u.dcids_to_retire.count 0) || not (eqb u.scids_to_advertise.count 0))) w.0
    ∙ ap (flagged_at 0) (any_entry s w.1)
    ∙ chosen s true (flagged_of (reply (view s) NeedSendCidControlFrames)) (flagged_at 1 false) true (passes w.1)
