-- The place that the search gives is that of the definition's first.
use Rattle.std.proofs.Common.{sym, ap, ◌∙◌, arith}
use Rattle.ids.specs.ReadLaws.{first_is, first_missing, first_within}
use Rattle.lists.specs.Defs.{optional}
use Rattle.tables.specs.Table as T
use Rattle.ids.proofs.reads.with_seq.Goals as goal

pub returns-in_err-i : goal.returns-in_err-i
returns-in_err-i c = c.from_residual.ensures ∙ sym (ap optional (first_missing (T.has_seq c.args.seq) c.args.items.now (c.in_err-i.ensures)))

pub offset_bounds-items-i : goal.offset_bounds-items-i
offset_bounds-items-i c = omega (arith, first_within (T.has_seq c.args.seq) c.args.items.now c.in_ok-i.i c.in_ok-i.ensures, c.well_formed)

pub bounds-items-i : goal.bounds-items-i
bounds-items-i c = first_within (T.has_seq c.args.seq) c.args.items.now c.in_ok-i.i c.in_ok-i.ensures

pub returns : goal.returns
returns c = sym (ap optional (first_is (T.has_seq c.args.seq) _ c.args.items.now c.in_ok-i.i c.in_ok-i.ensures))
