-- The place that the search gives is that of the definition's first.
use Rattle.std.proofs.Common.{ap, ◌∙◌, arith}
use Rattle.std.specs.Prelude.{Ok}
use Rattle.ids.specs.ReadLaws.{first_is, first_missing, first_within, find_ok, find_err}
use Rattle.ids.specs.Results.{found_answer}
use Rattle.tables.specs.Table as T
use Rattle.ids.proofs.reads.find.Goals as goal

pub returns-in_err-i : goal.returns-in_err-i
returns-in_err-i c = ap (λ r. found_answer (Ok r)) c.from_residual.ensures ∙ find_err c.args.items.now c.args.cid (first_missing (T.has_cid c.args.cid) c.args.items.now c.in_err-i.ensures)

pub offset_bounds-items-i : goal.offset_bounds-items-i
offset_bounds-items-i c = omega (arith, first_within (T.has_cid c.args.cid) c.args.items.now c.in_ok-i.i c.in_ok-i.ensures, c.well_formed)

pub bounds-items-i : goal.bounds-items-i
bounds-items-i c = first_within (T.has_cid c.args.cid) c.args.items.now c.in_ok-i.i c.in_ok-i.ensures

pub returns : goal.returns
returns c = find_ok c.args.items.now c.args.cid c.requires _ (first_is (T.has_cid c.args.cid) _ c.args.items.now c.in_ok-i.i c.in_ok-i.ensures)
