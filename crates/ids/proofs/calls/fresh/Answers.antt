-- The tests of the limit, the ID and the token choose between the first state and the all-zero one.
use Rattle.std.specs.Prelude.{◌≡◌, Bool, ◌&&◌, leb}
use Rattle.std.proofs.Common.{sym, ap, ap₂, ◌∙◌}
use Rattle.std.proofs.Math.Bool.{and_assoc}
use Rattle.ids.specs.StartLaws.{fresh_0, fresh_1, form_accepts, form_refuses}
use Rattle.ids.specs.declared.answers.DoneOut.{DoneOut}
use Rattle.lists.specs.Bools.{and_both}
use Rattle.values.specs.Cid.{id_formed}
use Rattle.values.specs.Limits.{max_dcid_limit}
use Rattle.values.specs.Refusals.{number}
use Rattle.values.specs.Token.{token_formed_of}
use Rattle.values.specs.declared.answers.Done.{Done}
use Rattle.values.specs.declared.refusals.Refusal.{Refusal}
use Rattle.ids.proofs.calls.fresh.Goals as goal

-- the code's test is that of the definition
module _ (t i a : Bool) (k x : Bool) (et : k ≡ t) (ex : x ≡ i) where
  pub same_test : ((k && a) && x) ≡ (t && (a && i))
  same_test = and_assoc k a x ∙ ap₂ (λ (p q : Bool). p && (a && q)) et ex

pub first_state-requires : goal.first_state-requires
first_state-requires c =
    let a = leb 1 c.args.dcid_limit && leb c.args.dcid_limit max_dcid_limit in
    (and_both _ _ (sym (same_test (token_formed_of c.args.token) (id_formed c.args.cid) a c.token_formed.result c.cid_formed.result c.token_formed.ensures c.cid_formed.ensures) ∙ form_accepts _ _ (sym c.form.ensures ∙ c.in_default.is))).0

pub returns : goal.returns
returns c =
    let a = leb 1 c.args.dcid_limit && leb c.args.dcid_limit max_dcid_limit in
    let e = sym (same_test (token_formed_of c.args.token) (id_formed c.args.cid) a c.token_formed.result c.cid_formed.result c.token_formed.ensures c.cid_formed.ensures) ∙ form_accepts _ _ (sym c.form.ensures ∙ c.in_default.is) in
    ap {B = DoneOut} (λ (d : Done). record { ids = c.first_state.result; answer = d }) c.from-2.ensures
    ∙ fresh_0 c.args.dcid_limit c.args.cid c.args.path c.args.token e _ c.first_state.ensures

pub returns-in-Err : goal.returns-in-Err
returns-in-Err c =
    let a = leb 1 c.args.dcid_limit && leb c.args.dcid_limit max_dcid_limit in
    let w = form_refuses _ _ (sym c.form.ensures ∙ c.in-Err.is) in
    let e = sym (same_test (token_formed_of c.args.token) (id_formed c.args.cid) a c.token_formed.result c.cid_formed.result c.token_formed.ensures c.cid_formed.ensures) ∙ w.0 in
    ap {B = DoneOut} (λ (d : Done). record { ids = c.zero_state.result; answer = d }) c.from.ensures
    ∙ ap {B = DoneOut} (λ (r : Refusal). record { ids = c.zero_state.result; answer = record { refusal = number r } }) w.1
    ∙ fresh_1 c.args.dcid_limit c.args.cid c.args.path c.args.token e _ c.zero_state.ensures
