use Rattle.std.specs.Prelude.{◌<◌, length, take}
use Rattle.std.proofs.Common.{sym, ap, ◌∙◌, arith, eq-eqb, ne_eqb}
use Rattle.values.specs.Limits.{max_path_chals_sent}
use Rattle.challenges.specs.Challenges.{carries, last_size, matching, spans, spans_of, span_to}
use Rattle.challenges.specs.declared.matches.Spans.{Spans}
use Rattle.challenges.specs.Laws.{last_snoc, spans_onto, standing_long}
use Rattle.lists.specs.Search.{keep_yes, keep_no, picked_yes, picked_no}
use Rattle.challenges.proofs.matches.sent_matches.Goals as goal
use Rattle.challenges.proofs.matches.sent_matches.Goals.{else-x-data, then-x-data}

pub loop-x-preserved : goal.loop-x-preserved
loop-x-preserved c =
    let o = c.loop-x in
    let l = c.standing-x-items.result.now in
    let f = span_to c.args.now.us in
    let p = carries c.args.«data» in
    let k = spans c.args.«data» c.args.now.us (take o.x-index l) in
    let m = matching c.args.«data» (take o.x-index l) in
    let h : o.x-index < length l = c.loop-x-test.true in
    let room : o.spans.count < max_path_chals_sent = omega (arith, o.invariant.few, ap length c.standing-x-items.ensures, standing_long c.args.s c.requires, c.requires.few) in
    record {
      in_range = omega arith;
      few = elim c.if-x-data.branch [
        | then-x-data w ↦ omega (arith, ap (λ (u : Spans). u.count) w.spans-is, o.invariant.few)
        | else-x-data w ↦ omega (arith, ap (λ (u : Spans). u.count) w.spans-is, o.invariant.few)
      ];
      listed = elim c.if-x-data.branch [
        | then-x-data w ↦ w.spans-is ∙ spans_onto k o.spans o.invariant.listed _ _ _ w.moment_minus.ensures room (picked_yes f p _ l o.x-index h (eq-eqb _ _ w.if-x-data.true))
        | else-x-data w ↦ w.spans-is ∙ o.invariant.listed ∙ ap spans_of (sym (picked_no f p _ l o.x-index h (ne_eqb _ _ w.if-x-data.false)))
      ];
      last = elim c.if-x-data.branch [
        | then-x-data w ↦ w.size-is ∙ sym (ap (last_size 0) (keep_yes p _ l o.x-index h (eq-eqb _ _ w.if-x-data.true)) ∙ last_snoc 0 m _)
        | else-x-data w ↦ w.size-is ∙ o.invariant.last ∙ ap (last_size 0) (sym (keep_no p _ l o.x-index h (ne_eqb _ _ w.if-x-data.false)))
      ];
    }
