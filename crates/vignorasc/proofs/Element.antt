-- A call that stores one element of the lent `Paths`: `fn f(t: &mut Paths, p: P, ..) -> R { let a = g(*t, p, ..); let i = a.place; let y = a.path; t.items[i] = y; a.answer }`. See `lent`'s `Change.antt`.
-- The state behind the reference is copied whole and passed to g; then it is taken apart to the element, and put together (`PathsCells.antt`), at which the borrow is closed.
-- Of g it is known that it gives the place, which lies within the list, and the element to put there (`Stored`).
-- Assumes nothing.
use Rattle.std.specs.Prelude.{◌≡◌, refl, ℕ, suc, ◌+◌, List, [], ◌∷◌, set}
use Rattle.std.proofs.Common.{sym, ap, subst}
use base.Fraction.{full_share}
use mir.Syntax.{Callee, Fn, local, value_local, named, mut, ty_ref, ty_ptr, ty_int, w64, deref, field, place, copy, int, rv_opd, op2, mul, unsigned, offset, addr_of, seq, assign, call, return}
use mir.Val.{Val, vptr}
use base.Logic.{all, id⊢}
use base.Fml.{ftrue, fat, flft}
use contract.Monad.{fact}
use types.Kit.{‵, raw, some, given, later, ◌⊛◌, ◌$◌, ◌∵◌, !, qed, by, move, keep, drop, use1, use2, split, pick, learn, rewrite, fsplit, fsplit3, await}
use types.Run.{look, look_raw, init, store_raw, forget, stop, hop, fld, from, load, addr, lit, of_opd, bin, and_then, assigns, land, returns, enter, alloc1, alloc0, params1, pass1, free1, free0}
use denote.RattleType.{flat, owns}
use denote.Laws.{Is, shows}
use denote.Memory.{cell_at, pointee}
use denote.Index.{row as elements, place_is, elem_out, elem_put}
use denote.Ref.{MutRef}
use denote.Steps.{only, opens, closes, owned, peeks, facts, heard, nothing}
use denote.Struct.Steps.{spelt}
use denote.Triple.Call.{calls_at}
use denote.Triple.Clauses.{ensured}
use Rattle.paths.specs.Acts.{Stored}
use Rattle.paths_state.specs.declared.state.Paths.{Paths}
use Rattle.vignorasc.specs.PathsCells.{R as E, elems, put, elems_set, times, inside, still_long, Back, apart, whole}
use Rattle.lent.specs.Kind.{Kind, row, Sort, kind, Part, Args, Ts, out, back, told, count, past, locals, copies, past_is, alloc_all, pass_all, forget_all, free_all, found, found_at, part, opds_at, loads}
use Rattle.vignorasc.proofs.Sorts.{u64, paths, path}
use Rattle.lent.specs.Change.{Call, g_ended, g_clauses, G, got_of, p, b_args, to_g, goes_g, exits, its, Walked, Theorem, keeps}

-- what the callee gives: the element, its place and the answer
pub record Placing (A : Sort) (R : Kind) : Type 2 where
  pub item : Part A (kind path)
  pub at : Part A u64
  pub answer : Part A R

module _ (Ps : List Kind) (A : Sort) (R : Kind) (parts : Placing A R) {O : Type 0} (answered : Paths → Args Ps → O) (gives : O → R.D) (leaves : O → Paths)
    (Ends : Paths → Args Ps → R.D → Paths → Type 0) (ends : (h : Paths) (x : Args Ps) (r : R.D) (u : Paths) → r ≡ gives (answered h x) → u ≡ leaves (answered h x) → Ends h x r u) where
  abbrev stored : Paths → A.T.D → Paths
  stored h r = put (set h.items (parts.at.get r) (parts.item.get r)) h

  abbrev pub placed : Call
  placed = record {
    S = paths;
    Ps = Ps;
    A = A;
    R = R;
    answer = parts.answer;
    stored = stored;
    Says = λ h x r. Stored h (parts.item.get r) (parts.at.get r) (parts.answer.get r) (leaves (answered h x)) (gives (answered h x));
    Ends = Ends;
    ends = λ h x r e. ends h x (parts.answer.get r) (stored h r) e.answer e.state;
  }

  -- after the parameters, the locals are a, i, y, the copy of the state, and where the element lies: as a distance, and two pointers
  abbrev pub code : Callee → Fn
  code #g = record {
    lifetimes = 1;
    outlives = [];
    ty_params = [];
    givens = 0;
    params = suc (count Ps);
    locals = local R.τ value_local ∷ local (ty_ref (named 0) mut (pointee (kind paths).written)) value_local ∷ locals Ps (local (kind A).τ value_local ∷ local (ty_int w64) value_local ∷ local (kind path).τ value_local
        ∷ local (kind paths).τ value_local ∷ local (ty_int w64) value_local ∷ local ty_ptr value_local ∷ local ty_ptr value_local ∷ []);
    body = seq (assign (place (suc (suc (past Ps 3))) []) (rv_opd (copy (place 1 (deref (kind paths).τ ∷ [])))))
        (seq (call #g (copy (place (suc (suc (past Ps 3))) []) ∷ copies (λ n. suc (suc n)) Ps) (place (suc (suc (past Ps 0))) []))
        (seq (assign (place (suc (suc (past Ps 1))) []) (rv_opd (copy (place (suc (suc (past Ps 0))) (field parts.at.k ∷ [])))))
        (seq (assign (place (suc (suc (past Ps 2))) []) (rv_opd (copy (place (suc (suc (past Ps 0))) (field parts.item.k ∷ [])))))
        (seq (assign (place (suc (suc (past Ps 4))) []) (op2 (mul unsigned) (copy (place (suc (suc (past Ps 1))) [])) (int w64 712)))
        (seq (assign (place (suc (suc (past Ps 5))) []) (addr_of (place 1 (deref (kind paths).τ ∷ field 0 ∷ []))))
        (seq (assign (place (suc (suc (past Ps 6))) []) (op2 offset (copy (place (suc (suc (past Ps 5))) [])) (copy (place (suc (suc (past Ps 4))) []))))
        (seq (assign (place (suc (suc (past Ps 6))) (deref (kind path).τ ∷ [])) (rv_opd (copy (place (suc (suc (past Ps 2))) []))))
        (seq (assign (place 0 []) (rv_opd (copy (place (suc (suc (past Ps 0))) (field parts.answer.k ∷ []))))) return))))))));
  }

  walk : Walked placed code
  walk M 𝓤 𝓛 κ q b o γ h a ok C Λ fm #g known =
      qed 𝓛 ((‵ (flft κ q) ⊛ ‵ ftrue) ∷ ‵ (owns (MutRef (named 0) κ (row (kind paths)) ∷ Ts 1 (κ, tt) Ps) (record { ref_ptr = (b, o); ghost_name = γ; now = h }, a) (vptr b o ∷ [], told 1 (κ, tt) Ps a)) ∷ []) ∵ enter ! C Λ (code #g) (vptr b o ∷ flat (Ts 1 (κ, tt) Ps) (told 1 (κ, tt) Ps a)) _ $
      alloc1 ! (λ l0. alloc1 ! (λ l1. alloc_all ! Ps (λ bs. alloc1 ! (λ l2. alloc1 ! (λ l3. alloc1 ! (λ l4. alloc1 ! (λ l5. alloc1 ! (λ l6. alloc1 ! (λ l7. alloc1 ! (λ l8. alloc0 ! $ params1 ! $ pass1 ! (init ! 15 refl (tt, tt)) $ move ! (14 ∷ []) $
      pass_all ! 1 (κ, tt) Ps bs a ok (((kind A).τ, l2) ∷ (ty_int w64, l3) ∷ ((kind path).τ, l4) ∷ ((kind paths).τ, l5) ∷ (ty_int w64, l6) ∷ (ty_ptr, l7) ∷ (ty_ptr, l8) ∷ []) $
      -- [the arguments' locals; the others from the last to the first, two items each; the token; what the parameters own]: the arguments go to the end, and what the reference owns is taken apart
      move ! (1 ∷ 2 ∷ 3 ∷ 4 ∷ 5 ∷ 6 ∷ 7 ∷ 8 ∷ 9 ∷ 10 ∷ 11 ∷ 12 ∷ 13 ∷ 14 ∷ 15 ∷ 16 ∷ 17 ∷ 18 ∷ 19 ∷ 20 ∷ []) $
      move ! (19 ∷ []) $ fsplit ! $ fsplit3 ! $ drop ! $ move ! (21 ∷ []) $ split ! $ move ! (2 ∷ 3 ∷ 0 ∷ []) $
      opens ! tt (row (kind paths)) {h = h} b o (λ vs. spelt ! (row (kind paths)) (Is (row (kind paths))) (shows 𝓛 (row (kind paths))) (λ y. (kind paths).val y ∷ []) (kind paths).tells full_share h vs b o $
      move ! (1 ∷ []) $ peeks ! (row (kind paths)) (Is (row (kind paths))) (shows 𝓛 (row (kind paths))) h ((kind paths).val h ∷ []) (λ was. move ! (1 ∷ 0 ∷ []) $
      -- [the state's cell; what it owns; the open borrow; .. ; the locals; the arguments' locals]: the state is copied
      assigns ! (of_opd ! (load ! (from ! (hop ! (look ! 21 refl) (stop !))) (look_raw ! 0 refl))) (found ! (past_is Ps bs _ 3 _)) (init ! 13 refl ((kind paths).typed 𝓛 h _ was).0) $
      -- the call
      nothing ! $ use1 𝓛 (raw ((G placed 𝓛).pre (to_g placed 𝓛 κ h a))) (goes_g placed 𝓛 κ h a ok was) $ calls_at ! fm (G placed 𝓛) known (to_g placed 𝓛 κ h a) (and_then ! (load ! (found ! (past_is Ps bs _ 3 _)) (look ! 14 refl))
      (opds_at ! 26 refl (loads ! 0 tt Ps (λ n. suc (suc n)) (((kind A).τ, l2) ∷ (ty_int w64, l3) ∷ ((kind path).τ, l4) ∷ ((kind paths).τ, l5) ∷ (ty_int w64, l6) ∷ (ty_ptr, l7) ∷ (ty_ptr, l8) ∷ []) bs (λ j. refl) (p placed 𝓛 κ h a)))) (λ v.
      use1 𝓛 (later (some (λ (r : A.T.D). (‵ ftrue ⊛ ‵ ((kind A).own r (v ∷ []))) ⊛ raw (ensured 𝓛 (g_ended placed) (g_clauses placed 𝓤) tt (h, b_args placed 𝓛 κ h a) tt r)))) (id⊢ 𝓤 _) $ await ! tt $ pick ! (λ r.
      split ! $ move ! (1 ∷ []) $ use1 𝓛 (raw (fact 𝓤 (placed.Says h (out 0 tt Ps (b_args placed 𝓛 κ h a)) r))) (got_of placed 𝓛 h (b_args placed 𝓛 κ h a) r) $ heard ! (placed.Says h (out 0 tt Ps (b_args placed 𝓛 κ h a)) r) (λ e. split ! $ drop ! $
      facts ! (row (kind A)) (Is (row (kind A))) (shows 𝓛 (row (kind A))) r (v ∷ []) (λ got. land ! (found ! (past_is Ps bs _ 0 _)) (init ! 19 refl ((kind A).typed 𝓛 r _ got).0) $
      rewrite ! 19 (λ (u : Val). ‵ (fat full_share (kind A).τ l2 0 u)) (ap only ((kind A).tells r _ got)) refl $
      assigns ! (of_opd ! (part ! 19 A u64 parts.at r (past_is Ps bs _ 0 _) refl)) (found ! (past_is Ps bs _ 1 _)) (init ! 17 refl (u64.typed 𝓛 (parts.at.get r) _ (parts.at.ok r (its placed r v got))).0) $
      assigns ! (of_opd ! (part ! 19 A (kind path) parts.item r (past_is Ps bs _ 0 _) refl)) (found ! (past_is Ps bs _ 2 _)) (init ! 15 refl ((kind path).typed 𝓛 (parts.item.get r) _ (parts.item.ok r (its placed r v got))).0) $
      -- where the element lies
      assigns ! (bin ! (load ! (found ! (past_is Ps bs _ 1 _)) (look ! 17 refl)) (lit ! tt) (record { fits = times e.within })) (found ! (past_is Ps bs _ 4 _)) (init ! 11 refl (tt, record { fits = times e.within })) $
      assigns ! (addr ! (from ! (hop ! (look ! 21 refl) (fld ! refl (stop !))))) (found ! (past_is Ps bs _ 5 _)) (init ! 9 refl (tt, tt)) $
      assigns ! (bin ! (load ! (found ! (past_is Ps bs _ 5 _)) (look ! 9 refl)) (load ! (found ! (past_is Ps bs _ 4 _)) (look ! 11 refl)) tt) (found ! (past_is Ps bs _ 6 _)) (init ! 7 refl (tt, tt)) $
      rewrite ! 7 (λ (n : ℕ). ‵ (fat full_share ty_ptr l8 0 (vptr b n))) (sym (place_is 712 (o + 0) (parts.at.get r))) refl $
      -- the state is taken apart, and one element out
      use1 𝓛 (‵ (fat full_share (kind paths).τ b o ((kind paths).val h))) (𝓛.laws.raw_at full_share (kind paths).τ b o ((kind paths).val h)) $ use1 𝓛 (‵ (elements E full_share (elems h.items) b (o + 0)) ⊛ raw (all 𝓤 (Back 𝓛 b o h))) (apart 𝓛 b o h was) $ split ! $
      elem_out ! E (Is E) (shows 𝓛 E) (λ y. (kind path).val y ∷ []) (kind path).tells full_share (elems h.items) (parts.at.get r) (parts.item.get r) b (o + 0) (inside h was (parts.at.get r) e.within) (λ _.
      assigns ! (of_opd ! (load ! (found ! (past_is Ps bs _ 2 _)) (look ! 18 refl))) (found_at ! (past_is Ps bs _ 6 _) (hop ! (look ! 10 refl) (stop !))) (store_raw ! 0 refl ((kind path).typed 𝓛 (parts.item.get r) _ (parts.item.ok r (its placed r v got))).0) $
      assigns ! (of_opd ! (part ! 22 A R parts.answer r (past_is Ps bs _ 0 _) refl)) (from ! (stop !)) (init ! 26 refl (R.typed 𝓛 (parts.answer.get r) _ (parts.answer.ok r (its placed r v got))).0) $
      -- it is put back, the state is put together, and the borrow is closed
      move ! (1 ∷ []) $ drop ! $ owned ! (row (kind path)) (Is (row (kind path))) ((kind path).makes 𝓛) (parts.item.get r) _ (parts.item.ok r (its placed r v got)) $ move ! (1 ∷ 0 ∷ []) $
      elem_put ! E full_share (elems h.items) (parts.at.get r) (parts.item.get r) ((kind path).val (parts.item.get r) ∷ []) b (o + 0) (inside h was (parts.at.get r) e.within) $
      rewrite ! 0 (λ (ys : List E.Denot). ‵ (elements E full_share ys b (o + 0))) (elems_set h.items (parts.at.get r) (parts.item.get r)) refl $
      use2 𝓛 (given (Is (row (kind paths)) (stored h r) ((kind paths).val (stored h r) ∷ [])) (‵ (fat full_share (kind paths).τ b o ((kind paths).val (stored h r))))) (whole 𝓛 b o h was (set h.items (parts.at.get r) (parts.item.get r)) (still_long h was (parts.at.get r) (parts.item.get r))) $ learn ! (λ made.
      use1 𝓛 (‵ (cell_at full_share ((kind paths).τ ∷ []) ((kind paths).val (stored h r) ∷ []) b o)) (𝓛.laws.at_raw full_share (kind paths).τ b o ((kind paths).val (stored h r))) $
      move ! (1 ∷ []) $ drop ! $ owned ! (row (kind paths)) (Is (row (kind paths))) ((kind paths).makes 𝓛) (stored h r) _ made $ move ! (1 ∷ 0 ∷ []) $ closes ! tt (row (kind paths)) (stored h r) ((kind paths).val (stored h r) ∷ []) b o $
      returns ! (look ! 21 refl) $ forget ! 5 refl $ forget ! 7 refl $ forget ! 9 refl $ forget ! 11 refl $ forget ! 13 refl $ forget ! 15 refl $ forget ! 17 refl $ forget ! 19 refl $ forget ! 21 refl $
      move ! (21 ∷ 22 ∷ []) $ free1 ! $ move ! (19 ∷ 20 ∷ []) $ free1 ! $ move ! (19 ∷ []) $ forget_all ! Ps bs (p placed 𝓛 κ h a) $ free_all ! Ps bs $
      move ! (17 ∷ 18 ∷ []) $ free1 ! $ move ! (15 ∷ 16 ∷ []) $ free1 ! $ move ! (13 ∷ 14 ∷ []) $ free1 ! $ move ! (11 ∷ 12 ∷ []) $ free1 ! $ move ! (9 ∷ 10 ∷ []) $ free1 ! $ move ! (7 ∷ 8 ∷ []) $ free1 ! $ move ! (5 ∷ 6 ∷ []) $ free1 ! $ free0 ! $
      keep ! (0 ∷ 1 ∷ 2 ∷ []) $ by ! (exits placed 𝓛 κ h a q b o γ ok r (parts.answer.ok r (its placed r v got)) (subst (λ (z : Args Ps). placed.Says h z r) (back 0 tt Ps (p placed 𝓛 κ h a)) e))))))))))))))))))))

  pub puts : Theorem placed code
  puts = keeps placed code walk
