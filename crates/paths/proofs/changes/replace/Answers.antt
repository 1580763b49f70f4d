-- One more path loses its listings; and the new path.
use Rattle.std.proofs.Common.{ap, arith}
use Rattle.paths.specs.ReadingLaws.{path_at_lem, tidy}
use Rattle.paths.specs.TableLaws.{each_done, unlist_both, both_more, replaced_is}
use Rattle.paths_rules.specs.State.{Path}
use Rattle.paths.proofs.changes.replace.Goals as goal

pub loop-i-preserved : goal.loop-i-preserved
loop-i-preserved c =
    let o = c.loop-i in
    both_more c.args.t.now (tidy c.args.t.now c.requires.formed) _ o.i o.t c.loop-i-test.true _ c.args.pair o.invariant _ _ c.stays_listed.ensures c.stays_listed-in-loop-i.ensures

pub returns : goal.returns
returns c =
    let o = c.loop-i in
    let t = c.args.t.now in
    let w = (tidy c.args.t.now c.requires.formed) in
    replaced_is t w o.t c.args.pair c.args.max_datagram_size _ c.new_path.ensures c.args.place _ c.requires.below (ap (λ (x : Path). x.pair) (path_at_lem t w _ c.args.place c.requires.below)) (each_done t w (unlist_both _ c.args.pair) o.i o.t (omega arith) o.invariant)
