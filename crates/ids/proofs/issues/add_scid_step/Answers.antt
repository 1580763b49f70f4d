-- The item is issued with what was asked for; refused, nothing is changed.
use Rattle.std.specs.Prelude.{◌≡◌, refl, ℕ, true, Option as Optional, Some, None}
use Rattle.std.proofs.Math.Option.{Option}
use Rattle.std.proofs.Common.{sym, ap, ◌∙◌}
use Rattle.lists.specs.Defs.{given, present}
use Rattle.values.specs.Refusals.{number}
use Rattle.values.specs.Token.{token_view}
use Rattle.ids_rules.specs.Steps as S
use Rattle.ids_rules.specs.With.{with_retire_prior_to}
use Rattle.ids.specs.IssueLaws.{keeps_issued}
use Rattle.ids.specs.Reading.{issued_of, path_formed_of, path_of, view}
use Rattle.ids.specs.Results.{option_of}
use Rattle.tables.specs.declared.items.Item as I
use Rattle.ids.proofs.issues.add_scid_step.Goals as goal

-- the path of an item that was made with it
with_path : (p : Optional ℕ) → given (present (option_of p)) (path_of (option_of p)) ≡ option_of p
with_path None = refl
with_path (Some n) = refl

of_form : (p : Optional ℕ) → path_formed_of (present (option_of p)) (path_of (option_of p)) ≡ true
of_form None = refl
of_form (Some n) = refl

pub issue_step-requires : goal.issue_step-requires
issue_step-requires c = rw c.item-x.ensures (refl, c.requires, of_form c.args.path)

pub returns-in-Ok : goal.returns-in-Ok
returns-in-Ok c =
    let v = view c.args.f.ids.now in
    let w = with_retire_prior_to c.in-Ok.retire_prior_to v in
    c.issue_step.ensures
    ∙ ap (λ (x : I.Item). issued_of (S.issue x.cid (token_view x.token) c.args.advertise (given x.has_path x.path) v w)) c.item-x.ensures
    ∙ ap (λ (p : Option ℕ). issued_of (S.issue c.args.cid (token_view c.args.token) c.args.advertise p v w)) (with_path c.args.path)
    ∙ sym (ap issued_of (c.in-Ok.ensures c.args.cid (token_view c.args.token) c.args.advertise (option_of c.args.path)))

pub returns-in-Err : goal.returns-in-Err
returns-in-Err c =
    keeps_issued c.args.f.ids.now c.args.f.well (number c.in-Err.refusal) _ (c.in-Err.ensures c.args.cid (token_view c.args.token) c.args.advertise (option_of c.args.path)) _ c.none_issued.ensures
