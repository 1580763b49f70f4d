-- The limit and the capacity are the definition's clamp and maximum.
use Rattle.std.specs.Prelude.{max, true, ◌&&◌, Bool}
use Rattle.std.proofs.Common.{ap, ◌∙◌}
use Rattle.values.specs.declared.answers.Done.{Done}
use Rattle.ids.specs.Acts.{done_in, done_leaves}
use Rattle.ids.specs.CallLaws.{chosen}
use Rattle.ids.specs.Puts.{put_limit}
use Rattle.ids.specs.Reading.{view, done_at, done_of}
use Rattle.ids.specs.StartLaws.{limit_0}
use Rattle.ids_rules.specs.Calls.{step, SetScidLimit}
use Rattle.ids.proofs.acts.set_scid_limit_at.Goals as goal

pub returns-in-Ok : goal.returns-in-Ok
returns-in-Ok c =
    let w = c.in-Ok.ensures.1 in
    let u = put_limit c.clamp-scid_limit.result c.max.result c.args.s in
    done_leaves _ _ _ (ap (λ (a : Done). done_in u a) c.from.ensures
    ∙ limit_0 c.args.s w c.args.n _ _ c.clamp-scid_limit.ensures (c.max.ensures ∙ ap (max c.args.s.scid_capacity) c.capacity_for-capacity.ensures)
    ∙ chosen c.args.s true (done_of (step (view c.args.s) (SetScidLimit c.args.n))) (done_at 1 c.args.s) true (ap (λ (b : Bool). b && true) w))
