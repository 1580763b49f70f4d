-- The destination table holds the one item, and the mark is the definition's.
use Rattle.std.specs.Prelude.{ℕ, Option, [], ◌∷◌, true, ◌&&◌, Bool}
use Rattle.std.proofs.Common.{sym, ap, ◌∙◌}
use Rattle.lists.specs.Defs.{given}
use Rattle.values.specs.Cid.{id_formed, empty_id}
use Rattle.values.specs.Token.{token_formed_of, token_view}
use Rattle.values.specs.declared.answers.Done.{Done}
use Rattle.tables.specs.Table.{table_of}
use Rattle.ids_rules.specs.Calls.{step, SetInitialDcid}
use Rattle.ids_state.specs.Formed.{well_formed}
use Rattle.ids.specs.Acts.{done_in, done_leaves}
use Rattle.ids.specs.CallLaws.{chosen, ids_each}
use Rattle.ids.specs.Puts.{put_initial}
use Rattle.ids.specs.Reading.{view, path_formed_of, done_at, done_of}
use Rattle.ids.specs.Results.{item_with}
use Rattle.ids.specs.StartLaws.{one_item, item_given, initial_0}
use Rattle.tables.specs.declared.items.Item as I
use Rattle.ids.proofs.acts.set_initial_dcid_at.Goals as goal

pub returns-in-Ok : goal.returns-in-Ok
returns-in-Ok c =
    let t = ap (λ (b : Bool). well_formed c.args.s && b) (sym c.of_id.ensures) ∙ c.in-Ok.ensures.1 in
    let w = ids_each c.args.s c.args.cid c.args.token c.args.has_path c.args.path t in
    let x : I.Item = record { seq = 0; path = c.args.path; cid = c.args.cid; token = c.args.token; has_path = c.args.has_path } in
    let e =
    c.only.ensures ∙ ap (λ (o : Option ℕ). table_of (item_with 0 c.args.cid c.args.token o ∷ [])) c.then_some.ensures
    ∙ ap (λ (y : I.Item). table_of (y ∷ [])) (item_given 0 c.args.cid c.args.token c.args.has_path c.args.path w.2) in
    done_leaves _ _ _ (ap (λ (a : Done). done_in (put_initial c.only.result (empty_id c.args.cid) c.args.s) a) c.from.ensures
    ∙ initial_0 c.args.s w.0 c.args.cid c.args.token c.args.has_path c.args.path _ (one_item x _ w.1 w.2 e)
    ∙ chosen c.args.s (id_formed c.args.cid && token_formed_of c.args.token && path_formed_of c.args.has_path c.args.path) (done_of (step (view c.args.s) (SetInitialDcid c.args.cid (token_view c.args.token) (given c.args.has_path c.args.path)))) (done_at 1 c.args.s) true t)
