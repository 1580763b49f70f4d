-- Validated, without a match, the size reached, and not: in each case the three parts are those of the three definitions.
use Rattle.std.specs.Prelude.{max}
use Rattle.std.proofs.Common.{arith, ap, sym, ◌∙◌, le-leb}
use Rattle.std.proofs.lemmas.Bool.{lt-leb}
use Rattle.path.specs.ChalLaws.{sent_held, validated_deaf, found_deaf, found_none, found_heeded, largest_is, respond_none, respond_big, respond_small, matched_none, matched_is, validates_none, validates_is}
use Rattle.values.specs.Limits.{min_client_initial_len}
use Rattle.path.proofs.responses.response.Goals as goal

pub returns-then-is_validated : goal.returns-then-is_validated
returns-then-is_validated c =
    let x = c.args.x.path.now in
    let t = validated_deaf x c.args.«data» (sym c.is_validated.ensures ∙ c.if-is_validated.true) in
    let p = respond_none x c.args.x.well c.args.«data» c.args.multi t in
    let m = c.no_spans.ensures ∙ matched_none x c.args.«data» c.args.now.us t in
    let v = validates_none x c.args.«data» t in
    λ i. record { path = p i; spans = m i; yes = v i }

pub sent_matches-size-requires : goal.sent_matches-size-requires
sent_matches-size-requires c = sent_held c.args.x.path.now c.args.x.well

pub returns-then-spans-eq0 : goal.returns-then-spans-eq0
returns-then-spans-eq0 c =
    let x = c.args.x.path.now in
    let t = found_deaf x c.args.«data» c.args.now.us _ c.sent_matches-size.ensures c.if-spans-eq0.true in
    let p = respond_none x c.args.x.well c.args.«data» c.args.multi t in
    let m = found_none x c.args.«data» c.args.now.us _ c.sent_matches-size.ensures c.if-spans-eq0.true ∙ matched_none x c.args.«data» c.args.now.us t in
    let v = validates_none x c.args.«data» t in
    λ i. record { path = p i; spans = m i; yes = v i }

pub sent_unmatched-path-requires : goal.sent_unmatched-path-requires
sent_unmatched-path-requires c = sent_held c.args.x.path.now c.args.x.well

pub returns-then-yes : goal.returns-then-yes
returns-then-yes c =
    let x = c.args.x.path.now in
    let t = found_heeded x c.args.«data» c.args.now.us _ c.sent_matches-size.ensures (sym c.is_validated.ensures ∙ c.if-is_validated.false) c.if-spans-eq0.false in
    let n = c.max.ensures ∙ largest_is x c.args.«data» c.args.now.us _ c.sent_matches-size.ensures in
    let r = c.max-2.ensures ∙ ap (max x.state) c.from.ensures in
    let k = c.max-then-yes.ensures ∙ ap (max c.max-2.result) c.from-then-yes.ensures in
    let b = le-leb min_client_initial_len c.max.result (omega arith) in
    let p = respond_big x c.args.x.well c.args.«data» c.args.multi t _ _ n r _ _ c.no_sent-path.ensures k b in
    let m = matched_is x c.args.«data» c.args.now.us _ c.sent_matches-size.ensures t in
    let v = validates_is x c.args.«data» t _ n in
    λ i. record { path = p i; spans = m i; yes = v i }

pub returns-else-yes : goal.returns-else-yes
returns-else-yes c =
    let x = c.args.x.path.now in
    let t = found_heeded x c.args.«data» c.args.now.us _ c.sent_matches-size.ensures (sym c.is_validated.ensures ∙ c.if-is_validated.false) c.if-spans-eq0.false in
    let n = c.max.ensures ∙ largest_is x c.args.«data» c.args.now.us _ c.sent_matches-size.ensures in
    let r = c.max-2.ensures ∙ ap (max x.state) c.from.ensures in
    let b = lt-leb min_client_initial_len c.max.result (omega arith) in
    let p = respond_small x c.args.x.well c.args.«data» c.args.multi t _ _ n r _ c.sent_unmatched-path.ensures b in
    let m = matched_is x c.args.«data» c.args.now.us _ c.sent_matches-size.ensures t in
    let v = validates_is x c.args.«data» t _ n in
    λ i. record { path = p i; spans = m i; yes = v i }
