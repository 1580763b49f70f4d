-- One more path loses its listing; and the new path.
use Rattle.std.proofs.Common.{◌≡◌, ap, arith}
use Rattle.paths_state.specs.declared.state.Paths.{Paths}
use Rattle.paths.specs.ReadingLaws.{tidy}
use Rattle.paths.specs.TableLaws.{each_done, unlisted_more, appended_is}
use Rattle.paths_rules.specs.Path.{unlist}
use Rattle.paths.proofs.changes.append.Goals as goal

pub loop-i-preserved : goal.loop-i-preserved
loop-i-preserved c =
    let o = c.loop-i in
    unlisted_more c.args.t.now (tidy c.args.t.now c.requires.formed) _ o.i o.t c.loop-i-test.true c.args.pair o.invariant _ c.stays_listed.ensures

pub returns : goal.returns
returns c =
    let o = c.loop-i in
    let t = c.args.t.now in
    let n : o.t.count ≡ t.count = ap (λ (u : Paths). u.count) o.invariant in
    rw n (appended_is t (tidy c.args.t.now c.requires.formed) o.t c.args.pair c.args.max_datagram_size _ c.new_path.ensures c.requires.room (each_done t (tidy c.args.t.now c.requires.formed) (unlist c.args.pair) o.i o.t (omega arith) o.invariant))
