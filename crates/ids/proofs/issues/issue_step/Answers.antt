-- Each return is one way through the definition.
use Rattle.std.specs.Prelude.{ℕ, ◌+◌}
use Rattle.std.proofs.Common.{ap, ◌∙◌, arith}
use Rattle.ids.specs.IssueLaws.{issue_2, issue_3, issue_6, issue_0}
use Rattle.ids.specs.Puts.{put_issued}
use Rattle.ids.specs.Reading.{issued_at}
use Rattle.ids.specs.ReadingLaws.{source_well, advertise_well}
use Rattle.ids.specs.declared.answers.IssuedOut.{IssuedOut}
use Rattle.ids_rules.specs.Steps as S
use Rattle.ids_state.proofs.Laws.{facts}
use Rattle.tables.specs.Table.{entries, queue_of}
use Rattle.values.specs.declared.answers.Counted.{Counted}
use Rattle.ids.proofs.issues.issue_step.Goals as goal

pub returns-then-not-x : goal.returns-then-not-x
returns-then-not-x c =
    issue_2 c.args.f.ids.now c.args.f.well c.args.retire_prior_to c.args.x c.args.advertise _ c.if-not-x.true c.none_issued.ensures

pub returns-then-s : goal.returns-then-s
returns-then-s c =
    issue_3 c.args.f.ids.now c.args.f.well c.args.retire_prior_to c.args.x c.args.advertise _ c.if-not-x.false c.if-s.true c.none_issued-then-s.ensures

pub returns-then-advertise-s : goal.returns-then-advertise-s
returns-then-advertise-s c =
    issue_6 c.args.f.ids.now c.args.f.well c.args.retire_prior_to c.args.x c.args.advertise _ c.if-not-x.false c.if-s.false c.if-advertise-s.true c.none_issued-then-advertise-s.ensures

pub append-requires : goal.append-requires
append-requires c = (source_well c.args.f.ids.now c.args.f.well, omega (arith, c.if-s.false, (facts c.args.f.ids.now c.args.f.well).bounds.capacity_most))

pub marked-requires : goal.marked-requires
marked-requires c = (advertise_well c.args.f.ids.now c.args.f.well, c.if-advertise-s.false)

pub returns : goal.returns
returns c =
    let s = c.args.f.ids.now in
    let marks = c.marked.ensures ∙ ap (λ (q : ℕ). queue_of (S.marked q c.args.advertise (entries s.scids_to_advertise))) c.requires.0 in
    issue_0 s c.args.f.well c.args.retire_prior_to c.args.x c.args.advertise _ c.if-not-x.false c.if-s.false c.if-advertise-s.false c.requires.0 c.requires.1 c.requires.2 _ _ c.append.ensures marks
    (ap {B = IssuedOut} (λ (d : Counted). record { ids = put_issued c.append.result c.marked.result (c.args.x.seq + 1) c.args.retire_prior_to s; answer = d }) c.from.ensures
    ∙ ap (λ (q : ℕ). issued_at 0 q (put_issued c.append.result c.marked.result (q + 1) c.args.retire_prior_to s)) c.requires.0)
