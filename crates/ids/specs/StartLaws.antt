-- The first state, the first destination ID and the source limit, as the code makes them.
use Rattle.std.specs.Prelude.{Ok, Err, ⊤, ℕ, min, max, ◌≡◌, refl, [], ◌∷◌, map, Bool, true, false, cond, ◌&&◌}
use Rattle.std.specs.Bool.{then_some}
use Rattle.std.proofs.Common.{sym, ap, ap₂, ◌∙◌, arith}
use Rattle.lists.specs.Defs.{given}
use Rattle.lists.specs.Bools.{and_both}
use Rattle.values.specs.Limits.{max_cids_count, min_scid_limit, capacity_of}
use Rattle.values.specs.Cid.{empty_id}
use Rattle.values.specs.Token.{token_formed_of, token_view}
use Rattle.values.specs.Refusals.{form_of}
use Rattle.values.specs.declared.refusals.Refusal.{Refusal}
use Rattle.values.specs.declared.refusals.Refusal.TheVariants.{Malformed}
use Rattle.values.specs.declared.token.Token.{Token}
use Rattle.values.specs.declared.cid.ConnectionId.{ConnectionId}
use Rattle.ids_rules.specs.View.{Out, refused, accepted, Nothing}
use Rattle.ids_rules.specs.Steps.{fresh, zero_view, fresh_formed, set_scid_limit, set_initial_dcid}
use Rattle.tables.specs.Table.{table_of}
use Rattle.tables.specs.declared.items.Table.{Table}
use Rattle.ids_state.specs.Formed.{well_formed}
use Rattle.ids_state.specs.declared.state.Ids.{Ids}
use Rattle.ids.specs.Reading.{item_view, view, item_of, ids_of, path_formed_of, done_at, done_of, fresh_ids}
use Rattle.ids.specs.ReadingLaws.{item_is, path_back, view_is}
use Rattle.ids.specs.Results.{item_with}
use Rattle.ids.specs.Puts.{put_initial, put_limit}
use Rattle.tables.specs.declared.items.Item as I

-- one item of its form in a table
pub one_item : (x : I.Item) (one : Table) → token_formed_of x.token ≡ true → path_formed_of x.has_path x.path ≡ true → one ≡ table_of (x ∷ []) → one ≡ table_of (map item_of (item_view x ∷ []))
one_item x one t p e = e ∙ ap (λ (y : I.Item). table_of (y ∷ [])) (sym (item_is x t p))

-- an item that is given its path with a flag
pub item_given : (seq : ℕ) (cid : ConnectionId) (token : Token) (has : Bool) (path : ℕ) → path_formed_of has path ≡ true
    → item_with seq cid token (then_some has path) ≡ record { seq = seq; path = path; cid = cid; token = token; has_path = has }
item_given seq cid token true path p = refl
item_given seq cid token false path p = λ i. record { seq = seq; path = path_back false path p i; cid = cid; token = token; has_path = false }

pub initial_0 : (s : Ids) → well_formed s ≡ true → (cid : ConnectionId) (token : Token) (has : Bool) (path : ℕ) (t : Table)
    → t ≡ table_of (map item_of (record { cid = cid; seq = 0; token = token_view token; path = given has path } ∷ []))
    → done_at 0 (put_initial t (empty_id cid) s) ≡ done_of (set_initial_dcid cid (token_view token) (given has path) (view s))
initial_0 s w cid token has path t e = ap₂ (λ (u : Table) (v : Ids). done_at 0 (put_initial u (empty_id cid) v)) e (sym (view_is s w))

pub limit_0 : (s : Ids) → well_formed s ≡ true → (n l c : ℕ) → l ≡ max min_scid_limit (min n max_cids_count) → c ≡ max s.scid_capacity (capacity_of l) → done_at 0 (put_limit l c s) ≡ done_of (set_scid_limit n (view s))
limit_0 s w n l c e q =
    ap₂ (λ (k : ℕ) (u : Ids). done_at 0 (put_limit l k u)) q (sym (view_is s w))
    ∙ ap (λ (k : ℕ). done_at 0 (put_limit k (max s.scid_capacity (capacity_of k)) (ids_of (view s)))) e

abbrev fresh_at : Bool → Bool → Out → Out
fresh_at t f o = cond t (cond f o (refused 1 zero_view)) (refused 1 zero_view)

-- both tests pass, or one does not
pub fresh_0 : (dcid_limit : ℕ) (cid : ConnectionId) (path : ℕ) (token : Token) → (token_formed_of token && fresh_formed dcid_limit cid) ≡ true → (s : Ids) → s ≡ ids_of (fresh dcid_limit cid path (token_view token))
    → done_at 0 s ≡ fresh_ids dcid_limit cid path token
fresh_0 dcid_limit cid path token e s q =
    let w = and_both (token_formed_of token) (fresh_formed dcid_limit cid) e in
    ap (done_at 0) q ∙ sym (ap₂ (λ (t f : Bool). done_of (fresh_at t f (accepted Nothing (fresh dcid_limit cid path (token_view token))))) w.0 w.1)

pub fresh_1 : (dcid_limit : ℕ) (cid : ConnectionId) (path : ℕ) (token : Token) → (token_formed_of token && fresh_formed dcid_limit cid) ≡ false → (s : Ids) → s ≡ ids_of zero_view
    → done_at 1 s ≡ fresh_ids dcid_limit cid path token
fresh_1 dcid_limit cid path token e s q = ap (done_at 1) q ∙ sym (ap done_of (go (token_formed_of token) (fresh_formed dcid_limit cid) e))
  where
    go : (t f : Bool) → (t && f) ≡ false → fresh_at t f (accepted Nothing (fresh dcid_limit cid path (token_view token))) ≡ refused 1 zero_view
    go true f r = ap (λ (b : Bool). cond b (accepted Nothing (fresh dcid_limit cid path (token_view token))) (refused 1 zero_view)) r
    go false f r = refl

-- ---- what a test of forms answered

pub form_accepts : (b : Bool) (u : ⊤) → form_of b ≡ Ok u → b ≡ true
form_accepts true u e = refl
form_accepts false u e = let z : ◌≡◌ {A = ℕ} 0 1 = cc in absurd (omega arith)

pub form_refuses : (b : Bool) (r : Refusal) → form_of b ≡ Err r → (b ≡ false) × (r ≡ Malformed)
form_refuses true r e = let z : ◌≡◌ {A = ℕ} 0 1 = cc in absurd (omega arith)
form_refuses false r e = let q : Malformed ≡ r = cc in (refl, sym q)
