-- A call that stores fields of a lent state, or the whole of it: `fn f(t: &mut S, p: P, ..) -> R { let a = g(*t, p, ..); t.x = a.y; ..; a.answer }`, and `*t = a.state;` (`Plan`). See `Change.antt`.
-- The state behind the reference is copied whole and passed to g; the borrow is open from there to the last store, at which it is closed.
-- `code` stores each field straight from a. Where a front end copies a field to a local of its own before the store, its code is another, and this file says nothing of it.
-- Assumes nothing.
use Rattle.std.specs.Prelude.{◌≡◌, refl, ℕ, zero, suc, List, [], ◌∷◌, get_or}
use Rattle.std.proofs.Common.{ap, subst}
use Rattle.std.proofs.Math.Option.{some}
use seplogic.Ra.Ura.{Ura}
use base.Fraction.{full_share}
use mir.Syntax.{Callee, Fn, Ty, local, value_local, named, mut, ty_ref, deref, field, place, copy, rv_opd, Body, seq, assign, call, return}
use mir.Val.{Val, Vals, vptr, vstruct}
use mir.Fields.{set_v}
use base.Logic.{id⊢}
use base.Fml.{ftrue, fat, flft}
use prog.Memory.{field_at}
use prog.Wp.{no_local, Calls, Loops}
use types.Logic.{Logic}
use contract.Monad.{fact}
use types.Kit.{Item, ‵, raw, some as some', later, ◌⊛◌, nth, Post, runs, Step, step, ◌$◌, ◌∵◌, !, qed, by, move, keep, drop, use1, split, pick, rewrite, fsplit, fsplit3, await}
use types.Run.{look, look_raw, init, store, forget, stop, hop, fld, from, load, of_opd, and_then, assigns, land, returns, enter, alloc1, alloc0, params1, pass1, free1, free0}
use types.Part as P
use types.Part.{sub, store_in}
use denote.RattleType.{flat, owns}
use denote.Laws.{Is, shows}
use denote.Memory.{cell_at, pointee}
use denote.Ref.{MutRef}
use denote.Steps.{only, opens, closes, owned, peeks, facts, heard, nothing}
use denote.Struct.Steps.{spelt}
use denote.Triple.Call.{calls_at}
use denote.Triple.Clauses.{ensured}
use denote.Struct.Laws as LL
use Rattle.lent.specs.Kind.{Kind, row, Sort, Fields, kind, tys, vals, Part, Args, Ts, out, back, told, count, past, locals, zip, copies, past_is, alloc_all, pass_all, forget_all, free_all, found, part, opds_at, loads}
use Rattle.lent.specs.Change.{Call, g_ended, g_clauses, G, got_of, p, b_args, to_g, goes_g, exits, its, Walked, Theorem, keeps}

-- field i of the state is set from a field of what the callee gives
pub record Move (S A : Sort) : Type 2 where
  pub B : Kind
  pub of : Part A B
  pub i : ℕ
  pub d : ℕ
  pub at : field_at zero (tys S) i ≡ some (B.τ, d)

abbrev pub sets : {S A : Sort} {B : Kind} (i : ℕ) → Part A B → {d : ℕ} → field_at zero (tys S) i ≡ some (B.τ, d) → Move S A
sets {B = B} i of {d} at = record { B = B; of = of; i = i; d = d; at = at }

pub data Plan (S A : Sort) : Type 2 where
  whole : Part A (kind S) → Plan S A
  fields : List (Move S A) → Plan S A

module _ (S A : Sort) where
  abbrev moved : List (Move S A) → Vals → A.T.D → Vals
  moved [] vs r = vs
  moved (m ∷ ms) vs r = moved ms (set_v vs m.i (m.B.val (m.of.get r))) r

  -- the state's machine value after the stores
  abbrev pub left : Plan S A → S.T.D → A.T.D → Val
  left (whole p) h r = (kind S).val (p.get r)
  left (fields ms) h r = vstruct (moved ms (vals S h) r)

  abbrev moves : ℕ → List (Move S A) → Body → Body
  moves a [] rest = rest
  moves a (m ∷ ms) rest = seq (assign (place 1 (deref (kind S).τ ∷ field m.i ∷ [])) (rv_opd (copy (place a (field m.of.k ∷ []))))) (moves a ms rest)

  abbrev stores : ℕ → Plan S A → Body → Body
  stores a (whole p) rest = seq (assign (place 1 (deref (kind S).τ ∷ [])) (rv_opd (copy (place a (field p.k ∷ []))))) rest
  stores a (fields ms) rest = moves a ms rest

  module _ {M : Type 1} {𝓤 : Ura M} {𝓛 : Logic 𝓤} {K : Type 0} {Γ : List (Item 𝓤)} {C : Calls 𝓤 𝓛.H} {Λ : Loops 𝓤 𝓛.H} {q : Post 𝓤 𝓛.H} (rest : Body)
      (r : A.T.D) (is : Fields A r) (a : ℕ) (τ₀ τ₁ : Ty) (l₀ l₁ l : ℕ) (E : List (Ty × ℕ)) (b o n₁ n : ℕ)
      (at_a : get_or ((τ₀, l₀) ∷ (τ₁, l₁) ∷ E) a (no_local 𝓤 𝓛.H) ≡ ((kind A).τ, l)) (at_t : nth 𝓛 n₁ Γ ≡ ‵ (fat full_share τ₁ l₁ zero (vptr b o))) (at_r : nth 𝓛 n Γ ≡ ‵ (fat full_share (kind A).τ l zero ((kind A).val r))) where
    do_moves : K → (ms : List (Move S A)) (vs : Vals) → Step K 𝓛 (‵ (fat full_share (kind S).τ b o (vstruct (moved ms vs r))) ∷ Γ) (runs C Λ ((τ₀, l₀) ∷ (τ₁, l₁) ∷ E) rest q) (‵ (fat full_share (kind S).τ b o (vstruct vs)) ∷ Γ) (runs C Λ ((τ₀, l₀) ∷ (τ₁, l₁) ∷ E) (moves a ms rest) q)
    do_moves t [] vs = step (λ s. s)
    do_moves t (m ∷ ms) vs = step (λ s.
        assigns t (of_opd t (part t (suc n) A m.B m.of r at_a at_r)) (from t (hop t (look t (suc n₁) at_t) (fld t m.at (stop t)))) (store_in t 0 (sub t m.i m.at (P.whole t)) (m.B.typed 𝓛 (m.of.get r) _ (m.of.ok r is)).0) $
        do_moves t ms (set_v vs m.i (m.B.val (m.of.get r))) $ s)

    do_stores : K → (p : Plan S A) (h : S.T.D) → Step K 𝓛 (‵ (fat full_share (kind S).τ b o (left p h r)) ∷ Γ) (runs C Λ ((τ₀, l₀) ∷ (τ₁, l₁) ∷ E) rest q) (‵ (fat full_share (kind S).τ b o ((kind S).val h)) ∷ Γ) (runs C Λ ((τ₀, l₀) ∷ (τ₁, l₁) ∷ E) (stores a p rest) q)
    do_stores t (whole p) h = step (λ s. assigns t (of_opd t (part t (suc n) A (kind S) p r at_a at_r)) (from t (hop t (look t (suc n₁) at_t) (stop t))) (store t 0 refl ((kind S).typed 𝓛 (p.get r) _ (p.ok r is)).0) $ s)
    do_stores t (fields ms) h = do_moves t ms (vals S h)

module _ (c : Call) (plan : Plan c.S c.A) where
  open c use {S, Ps, A, R, answer, stored, Says}

  -- f's code, over g's name: after the parameters, the locals are a and the copy of the state
  abbrev pub code : Callee → Fn
  code #g = record {
    lifetimes = 1;
    outlives = [];
    ty_params = [];
    givens = 0;
    params = suc (count Ps);
    locals = local R.τ value_local ∷ local (ty_ref (named 0) mut (pointee (kind S).written)) value_local ∷ locals Ps (local (kind A).τ value_local ∷ local (kind S).τ value_local ∷ []);
    body = seq (assign (place (suc (suc (past Ps 1))) []) (rv_opd (copy (place 1 (deref (kind S).τ ∷ [])))))
        (seq (call #g (copy (place (suc (suc (past Ps 1))) []) ∷ copies (λ n. suc (suc n)) Ps) (place (suc (suc (past Ps 0))) []))
        (stores S A (suc (suc (past Ps 0))) plan (seq (assign (place 0 []) (rv_opd (copy (place (suc (suc (past Ps 0))) (field answer.k ∷ []))))) return)));
  }

  -- the stores leave the state's machine value, and each of its fields is one of what was there and of what the callee gave
  module _ (stored_is : (h : S.T.D) (r : A.T.D) → left S A plan h r ≡ (kind S).val (stored h r)) (made : (h : S.T.D) (r : A.T.D) → Fields S h → Fields A r → Fields S (stored h r)) where
    walk : Walked c code
    walk M 𝓤 𝓛 κ q b o γ h a ok C Λ fm #g known =
        qed 𝓛 ((‵ (flft κ q) ⊛ ‵ ftrue) ∷ ‵ (owns (MutRef (named 0) κ (row (kind S)) ∷ Ts 1 (κ, tt) Ps) (record { ref_ptr = (b, o); ghost_name = γ; now = h }, a) (vptr b o ∷ [], told 1 (κ, tt) Ps a)) ∷ []) ∵ enter ! C Λ (code #g) (vptr b o ∷ flat (Ts 1 (κ, tt) Ps) (told 1 (κ, tt) Ps a)) _ $
        alloc1 ! (λ l0. alloc1 ! (λ l1. alloc_all ! Ps (λ bs. alloc1 ! (λ l2. alloc1 ! (λ l3. alloc0 ! $ params1 ! $ pass1 ! (init ! 5 refl (tt, tt)) $ move ! (4 ∷ []) $ pass_all ! 1 (κ, tt) Ps bs a ok (((kind A).τ, l2) ∷ ((kind S).τ, l3) ∷ []) $
        -- [the arguments' locals; the others from the last to the first, two items each; the token; what the parameters own]: the arguments go to the end, and what the reference owns is taken apart
        move ! (1 ∷ 2 ∷ 3 ∷ 4 ∷ 5 ∷ 6 ∷ 7 ∷ 8 ∷ 9 ∷ 10 ∷ []) $
        move ! (9 ∷ []) $ fsplit ! $ fsplit3 ! $ drop ! $ move ! (11 ∷ []) $ split ! $ move ! (2 ∷ 3 ∷ 0 ∷ []) $
        opens ! tt (row (kind S)) {h = h} b o (λ vs. spelt ! (row (kind S)) (Is (row (kind S))) (shows 𝓛 (row (kind S))) (λ y. (kind S).val y ∷ []) (kind S).tells full_share h vs b o $
        move ! (1 ∷ []) $ peeks ! (row (kind S)) (Is (row (kind S))) (shows 𝓛 (row (kind S))) h ((kind S).val h ∷ []) (λ was. move ! (1 ∷ 0 ∷ []) $
        -- [the state's cell; what it owns; the open borrow; .. ; the locals; the arguments' locals]: the state is copied
        assigns ! (of_opd ! (load ! (from ! (hop ! (look ! 11 refl) (stop !))) (look_raw ! 0 refl))) (found ! (past_is Ps bs _ 1 _)) (init ! 7 refl ((kind S).typed 𝓛 h _ was).0) $
        -- the call
        nothing ! $ use1 𝓛 (raw ((G c 𝓛).pre (to_g c 𝓛 κ h a))) (goes_g c 𝓛 κ h a ok was) $ calls_at ! fm (G c 𝓛) known (to_g c 𝓛 κ h a) (and_then ! (load ! (found ! (past_is Ps bs _ 1 _)) (look ! 8 refl)) (opds_at ! 16 refl (loads ! 0 tt Ps (λ n. suc (suc n)) (((kind A).τ, l2) ∷ ((kind S).τ, l3) ∷ []) bs (λ j. refl) (p c 𝓛 κ h a)))) (λ v.
        use1 𝓛 (later (some' (λ (r : A.T.D). (‵ ftrue ⊛ ‵ ((kind A).own r (v ∷ []))) ⊛ raw (ensured 𝓛 (g_ended c) (g_clauses c 𝓤) tt (h, (b_args c 𝓛 κ h a)) tt r)))) (id⊢ 𝓤 _) $ await ! tt $ pick ! (λ r.
        split ! $ move ! (1 ∷ []) $ use1 𝓛 (raw (fact 𝓤 (Says h (out 0 tt Ps (b_args c 𝓛 κ h a)) r))) (got_of c 𝓛 h (b_args c 𝓛 κ h a) r) $ heard ! (Says h (out 0 tt Ps (b_args c 𝓛 κ h a)) r) (λ e. split ! $ drop ! $
        facts ! (row (kind A)) (Is (row (kind A))) (shows 𝓛 (row (kind A))) r (v ∷ []) (λ got. land ! (found ! (past_is Ps bs _ 0 _)) (init ! 9 refl ((kind A).typed 𝓛 r _ got).0) $
        rewrite ! 9 (λ (u : Val). ‵ (fat full_share (kind A).τ l2 0 u)) (ap only ((kind A).tells r _ got)) refl $
        -- the stores, and the answer
        use1 𝓛 (‵ (fat full_share (kind S).τ b o ((kind S).val h))) (𝓛.laws.raw_at full_share (kind S).τ b o ((kind S).val h)) $
        do_stores S A _ r (its c r v got) (suc (suc (past Ps 0))) R.τ (ty_ref (named 0) mut (pointee (kind S).written)) l0 l1 l2 (zip Ps bs (((kind A).τ, l2) ∷ ((kind S).τ, l3) ∷ [])) b o 10 8 (past_is Ps bs _ 0 _) refl refl ! plan h $
        assigns ! (of_opd ! (part ! 9 A R answer r (past_is Ps bs _ 0 _) refl)) (from ! (stop !)) (init ! 13 refl (R.typed 𝓛 (answer.get r) _ (answer.ok r (its c r v got))).0) $
        -- the borrow is closed
        rewrite ! 0 (λ (u : Val). ‵ (fat full_share (kind S).τ b o u)) (stored_is h r) refl $ use1 𝓛 (‵ (cell_at full_share ((kind S).τ ∷ []) ((kind S).val (stored h r) ∷ []) b o)) (𝓛.laws.at_raw full_share (kind S).τ b o ((kind S).val (stored h r))) $
        move ! (1 ∷ []) $ drop ! $ owned ! (row (kind S)) (Is (row (kind S))) ((kind S).makes 𝓛) (stored h r) _ (LL.owes S.T S.L (stored h r) (made h r (LL.owed S.T S.L h _ was) (its c r v got))) $ move ! (1 ∷ 0 ∷ []) $ closes ! tt (row (kind S)) (stored h r) ((kind S).val (stored h r) ∷ []) b o $
        returns ! (look ! 11 refl) $ forget ! 5 refl $ forget ! 7 refl $ forget ! 9 refl $ forget ! 11 refl $
        move ! (11 ∷ 12 ∷ []) $ free1 ! $ move ! (9 ∷ 10 ∷ []) $ free1 ! $ move ! (9 ∷ []) $ forget_all ! Ps bs (p c 𝓛 κ h a) $ free_all ! Ps bs $ move ! (7 ∷ 8 ∷ []) $ free1 ! $ move ! (5 ∷ 6 ∷ []) $ free1 ! $ free0 ! $
        keep ! (0 ∷ 1 ∷ 2 ∷ []) $ by ! (exits c 𝓛 κ h a q b o γ ok r (answer.ok r (its c r v got)) (subst (λ (z : Args Ps). Says h z r) (back 0 tt Ps (p c 𝓛 κ h a)) e)))))))))))))

    pub stores_by : Theorem c code
    stores_by = keeps c code walk

-- `*t = a.state;`, where the callee gives `answered t (p, ..)`
module _ (S : Sort) (Ps : List Kind) (A : Sort) (R : Kind) (state : Part A (kind S)) (answer : Part A R) (answered : S.T.D → Args Ps → A.T.D)
    (Ends : S.T.D → Args Ps → R.D → S.T.D → Type 0) (ends : (h : S.T.D) (x : Args Ps) (r : A.T.D) → r ≡ answered h x → Ends h x (answer.get r) (state.get r)) where
  abbrev whole_call : Call
  whole_call = record {
    S = S;
    Ps = Ps;
    A = A;
    R = R;
    answer = answer;
    stored = λ h r. state.get r;
    Says = λ h x r. r ≡ answered h x;
    Ends = Ends;
    ends = ends;
  }

  pub stores_whole : Theorem whole_call (code whole_call (whole state))
  stores_whole = stores_by whole_call (whole state) (λ h r. refl) (λ h r was is. LL.owed S.T S.L (state.get r) _ (state.ok r is))
