-- A call that passes a state on that it is lent to read: `fn f(t: &S, p: P, ..) -> R { g(t, p, ..) }`, for every state S, answer R and list of arguments Ps that are plain data (`Kind.antt`). `Pass.antt` has `&mut`.
-- What the reference owns goes to g, for the lifetime that it has. All that is known of g is that it meets its contract (`Says`); f's (`Ends`) follows from that (`ends`).
-- Assumes nothing.
use Rattle.std.specs.Prelude.{◌≡◌, refl, ℕ, suc, List, [], ◌∷◌}
use Rattle.std.proofs.Common.{subst}
use seplogic.Ra.Ura.{Ura}
use mir.Syntax.{Callee, Fn, local, value_local, named, imm, ty_ref, place, copy, seq, call, return}
use mir.Val.{Val, vptr}
use base.Logic.{SProp, ent, emp, via, fst∗, id⊢}
use base.Fml.{Lft, Share, ftrue, flft}
use prog.Routine.{Routine, Env as Meaning}
use prog.Model.{Model}
use prog.Wp.{Heap, Calls, Loops, WpFn, Closed, Tables}
use types.Logic.{Logic}
use contract.Monad.{fact}
use contract.Running.{Running, tables, tables_of}
use types.Kit.{‵, raw, some, later, ◌⊛◌, ⋆, ◌$◌, ◌∵◌, !, qed, by, move, keep, drop, use0, use1, use2, split, join, pick, fsplit, fjoin, suffices, frame, await, done}
use types.Run.{look, init, forget, stop, from, load, and_then, land, returns, enter, alloc1, alloc0, params1, pass1, free1, free0}
use sound.WpLaws.{FmC, fm_of, WpFn-mono}
use denote.RattleType.{Denots, flat, owns}
use denote.Laws.{Is, shows}
use denote.Memory.{pointee}
use denote.Ref.{Bor, ShrRef, shr_vals, shr_Tells}
use denote.Signature.{plain, shr_ref_to}
use denote.Steps.{peeks, heard, nothing}
use denote.Triple.Entry.{on_entry}
use denote.Triple.Spec.{Meets, triple_of}
use denote.Triple.Statement.{Contract, Triple}
use denote.Triple.Call.{calls_at}
use denote.Triple.Clauses.{Ended, Lasts, Clauses, ensured, closing, lasts}
use denote.Triple.Table.{entered, cited}
use denote.Triple.Walked.{says, Stays, stay_dropped, has_of, walk_of, AllGo, Goes-dropped, Walks, ends_at, walked, walk_Meets}
use denote.Exit.{yes}
use Rattle.lent.specs.Kind.{Kind, row, Args, Fine, slots, kepts, stays, Ts, out, into, back, spell, told, tell, fine, none_last, all_fit, has_all, owns_all, all_go, count, locals, copies, alloc_all, pass_all, forget_all, free_all, opds_at, loads}

module _ (S : Kind) (Ps : List Kind) (R : Kind) where
  -- f's code, over g's name
  abbrev pub code : Callee → Fn
  code #g = record {
    lifetimes = 1;
    outlives = [];
    ty_params = [];
    givens = 0;
    params = suc (count Ps);
    locals = local R.τ value_local ∷ local (ty_ref (named 0) imm (pointee S.written)) value_local ∷ locals Ps [];
    body = seq (call #g (copy (place 1 []) ∷ copies (λ n. suc (suc n)) Ps) (place 0 [])) return;
  }

  abbrev pub ended : Ended
  ended = record {
    signature = record { lifetimes = 1; outlives = []; params = shr_ref_to (0 ∷ []) tt (plain (λ _. row S)) ∷ slots Ps; result = plain (λ _. row R) };
    kept = (yes, kepts 1 Ps);
  }

  abbrev stayed : Stays ended.signature.params ended.kept
  stayed = (stay_dropped (shr_ref_to (0 ∷ []) tt (plain (λ _. row S))) yes, stays 1 Ps)

  abbrev clauses : (S.D → Args Ps → R.D → Type 0) → {M : Type 1} (𝓤 : Ura M) → Clauses 𝓤 ended
  clauses Q 𝓤 κs a = record { ghost = Unit {0}; requires = λ _. emp 𝓤; ensures = λ _ r e. fact 𝓤 (Q a.0.now (out 1 κs Ps a.1) r) }

  module _ (Says Ends : S.D → Args Ps → R.D → Type 0) (ends : (h : S.D) (x : Args Ps) (r : R.D) → Says h x r → Ends h x r) where
    module _ {M : Type 1} {𝓤 : Ura M} (𝓛 : Logic 𝓤) where
      open 𝓛 use {H}

      abbrev pub G : Contract 𝓤
      G = triple_of 𝓛 ended.signature (closing 𝓛 ended (clauses Says 𝓤))

      module _ (κ : Lft) (q : Share) (b o : ℕ) (h : S.D) (a : Denots (Ts 1 (κ, tt) Ps)) (ok : Fine Ps (out 1 (κ, tt) Ps a)) where
        abbrev p : Args Ps
        p = out 1 (κ, tt) Ps a

        abbrev ref : Bor S.D
        ref = record { ref_ptr = (b, o); now = h }

        abbrev Post : Val → SProp 𝓤
        Post = (walk_of 𝓛 ended stayed (clauses Ends 𝓤)).post (((κ, tt), (q, tt), tt, (ref, a), (vptr b o ∷ [], told 1 (κ, tt) Ps a)), tt)

        -- what the callee's triple binds outside, and what it asks at entry
        abbrev b_args : Denots (Ts 1 (κ, tt) Ps)
        b_args = into 1 (κ, tt) Ps p

        abbrev to_g : G.Ghost
        to_g = (((κ, tt), (q, tt), tt, (ref, b_args), (vptr b o ∷ [], told 1 (κ, tt) Ps b_args)), tt)

        goes_g : ent 𝓤 (⋆ 𝓛 ((‵ (flft κ q) ⊛ ‵ ftrue) ∷ ‵ ((ShrRef (named 0) κ (row S)).own_val ref (vptr b o ∷ [])) ∷ [])) (G.pre to_g)
        goes_g =
            qed 𝓛 ((‵ (flft κ q) ⊛ ‵ ftrue) ∷ ‵ ((ShrRef (named 0) κ (row S)).own_val ref (vptr b o ∷ [])) ∷ []) ∵
            use0 𝓛 (‵ (owns (Ts 1 (κ, tt) Ps) b_args (told 1 (κ, tt) Ps b_args))) (owns_all 1 (κ, tt) 𝓛 Ps p ok) $
            move ! (2 ∷ 0 ∷ []) $ fjoin ! $ move ! (1 ∷ 0 ∷ []) $ join ! $ frame ! $ done !

        exits : (r : R.D) (v : Val) → Says h p r → ent 𝓤 (⋆ 𝓛 ((‵ (flft κ q) ⊛ ‵ ftrue) ∷ ‵ (R.own r (v ∷ [])) ∷ [])) (Post v)
        exits r v e =
            qed 𝓛 ((‵ (flft κ q) ⊛ ‵ ftrue) ∷ ‵ (R.own r (v ∷ [])) ∷ []) ∵
            suffices ! _ (ends_at 𝓛 ended stayed (clauses Ends 𝓤) (((κ, tt), (q, tt), tt, (ref, a), (vptr b o ∷ [], told 1 (κ, tt) Ps a)), tt) v r (tt, none_last 1 (κ, tt) Ps a) (tt, all_fit 1 (κ, tt) Ps a)) $ says ! (ends h p r e) $
            frame ! $ use0 𝓛 (‵ (has_of {n = 1} (κ, tt) (slots Ps) (kepts 1 Ps) (stays 1 Ps) a (none_last 1 (κ, tt) Ps a) (told 1 (κ, tt) Ps a))) (has_all 1 (κ, tt) 𝓛 Ps a ok) $ nothing ! $ fjoin ! $ frame ! $ done !

        module _ (C : Calls 𝓤 H) (Λ : Loops 𝓤 H) (fm : FmC 𝓤 H 𝓛.laws C) (#g : Callee) (known : Triple 𝓤 (C #g) G) where
          walk : ent 𝓤 (on_entry 𝓛 ended.signature (κ, tt) (q, tt) (ref, a) (vptr b o ∷ [], told 1 (κ, tt) Ps a)) (WpFn 𝓤 H C Λ (code #g) (vptr b o ∷ flat (Ts 1 (κ, tt) Ps) (told 1 (κ, tt) Ps a)) Post)
          walk =
              qed 𝓛 ((‵ (flft κ q) ⊛ ‵ ftrue) ∷ ‵ (owns (ShrRef (named 0) κ (row S) ∷ Ts 1 (κ, tt) Ps) (ref, a) (vptr b o ∷ [], told 1 (κ, tt) Ps a)) ∷ []) ∵ enter ! C Λ (code #g) (vptr b o ∷ flat (Ts 1 (κ, tt) Ps) (told 1 (κ, tt) Ps a)) _ $
              alloc1 ! (λ l0. alloc1 ! (λ l1. alloc_all ! Ps (λ bs. alloc0 ! $ params1 ! $ move ! (1 ∷ 2 ∷ []) $ pass1 ! (init ! 0 refl (tt, tt)) $ move ! (2 ∷ []) $ pass_all ! 1 (κ, tt) Ps bs a ok [] $
              -- [the arguments' locals; the others from the last to the first, two items each; the token; what the parameters own]: the arguments go to the end, and what they own is dropped
              move ! (1 ∷ 2 ∷ 3 ∷ 4 ∷ 5 ∷ 6 ∷ []) $ move ! (5 ∷ []) $ fsplit ! $ move ! (1 ∷ []) $ drop ! $
              -- [what the reference owns; the locals; the token; the arguments' locals]: the reference is passed with all that it owns
              move ! (5 ∷ 0 ∷ []) $ use2 𝓛 (raw (G.pre to_g)) goes_g $
              calls_at ! fm G known to_g (and_then ! (load ! (from ! (stop !)) (look ! 1 refl)) (opds_at ! 5 refl (loads ! 1 (κ, tt) Ps (λ n. suc (suc n)) [] bs (λ j. refl) p))) (λ v.
              use1 𝓛 (later (some (λ (r : R.D). ((‵ (flft κ q) ⊛ ‵ ftrue) ⊛ ‵ (R.own r (v ∷ []))) ⊛ raw (ensured 𝓛 ended (clauses Says 𝓤) (κ, tt) (ref, b_args) tt r)))) (id⊢ 𝓤 _) $ await ! tt $ pick ! (λ r.
              split ! $ move ! (1 ∷ []) $
              use1 𝓛 (some (λ (zs : Lasts ended (κ, tt) (ref, b_args)). ‵ (lasts ended (κ, tt) (ref, b_args) zs) ⊛ raw (fact 𝓤 (Says h (out 1 (κ, tt) Ps b_args) r)))) (id⊢ 𝓤 _) $ pick ! (λ zs.
              split ! $ move ! (1 ∷ []) $ heard ! (Says h (out 1 (κ, tt) Ps b_args) r) (λ e.
              -- [what says the last values; the token with the answer; the locals]: the answer is returned
              drop ! $ split ! $ move ! (1 ∷ []) $
              peeks ! (row R) (Is (row R)) (shows 𝓛 (row R)) r (v ∷ []) (λ is. land ! (from ! (stop !)) (init ! 4 refl (R.typed 𝓛 r _ is).0) $
              returns ! (look ! 4 refl) $ forget ! 2 refl $ forget ! 4 refl $
              move ! (4 ∷ 5 ∷ []) $ free1 ! $ move ! (2 ∷ 3 ∷ []) $ free1 ! $ move ! (2 ∷ []) $ forget_all ! Ps bs p $ free_all ! Ps bs $ free0 ! $
              keep ! (1 ∷ 0 ∷ []) $ by ! (exits r v (subst (λ (z : Args Ps). Says h z r) (back 1 (κ, tt) Ps p) e))))))))))

      module _ where
        walks : (C : Calls 𝓤 H) (Λ : Loops 𝓤 H) → FmC 𝓤 H 𝓛.laws C → (#g : Callee) → Triple 𝓤 (C #g) G → Walks 𝓛 ended stayed (WpFn 𝓤 H C Λ (code #g)) (clauses Ends 𝓤)
        walks C Λ fm #g known = walked 𝓛 ended stayed (clauses Ends 𝓤) (WpFn 𝓤 H C Λ (code #g))
            (λ κs. (shr_vals, spell 1 κs Ps)) (λ κs. (shr_Tells (named 0) κs.0 (row S), tell 1 κs Ps))
            (λ κs qs bounds a _ are. via 𝓤 _ (fst∗ 𝓤 _ (emp 𝓤)) (walk κs.0 qs.0 a.0.ref_ptr.0 a.0.ref_ptr.1 a.0.now a.1 (fine 1 κs Ps a.1 are.1) C Λ fm #g known))

        goes : AllGo 𝓛 1 ended.signature.params ended.kept stayed
        goes = (Goes-dropped 𝓛 1 (shr_ref_to (0 ∷ []) tt (plain (λ _. row S))) yes (λ κs x f. refl), all_go 𝓛 1 Ps)

        meets : (𝓣 : Tables 𝓤 H) (#g : Callee) → Triple 𝓤 (𝓣.C #g) G → Meets 𝓛 ended.signature (WpFn 𝓤 H 𝓣.C 𝓣.Λ (code #g)) (closing 𝓛 ended (clauses Ends 𝓤))
        meets 𝓣 #g known = walk_Meets 𝓛 ended stayed goes (clauses Ends 𝓤) (WpFn 𝓤 H 𝓣.C 𝓣.Λ (code #g)) (WpFn-mono 𝓤 H 𝓛.laws 𝓣 (code #g)) (walks 𝓣.C 𝓣.Λ (fm_of 𝓤 H 𝓛.laws 𝓣) #g known)

    -- the theorem, of a function #f with that code and of a callee #g with that contract
    pub reads_on : (#f #g : Callee) (env : Meaning) (g : Routine) → env #g ≡ g
        → ((M : Type 1) (𝓤 : Ura M) (H : Heap 𝓤) (𝓜 : Model 𝓤 H) (𝓡 : Running 𝓤 H 𝓜) → Closed 𝓤 H (tables 𝓤 H 𝓜 𝓡 env).C (tables 𝓤 H 𝓜 𝓡 env).Λ #f (code #g))
        → ((M : Type 1) (𝓤 : Ura M) (𝓛 : Logic 𝓤) (𝓜 : Model 𝓤 𝓛.H) (𝓡 : Running 𝓤 𝓛.H 𝓜) → Triple 𝓤 (𝓡.run g) (G 𝓛))
        → (M : Type 1) (𝓤 : Ura M) (𝓛 : Logic 𝓤) (𝓜 : Model 𝓤 𝓛.H) (𝓡 : Running 𝓤 𝓛.H 𝓜) → Meets 𝓛 ended.signature (𝓡.run (env #f)) (closing 𝓛 ended (clauses Ends 𝓤))
    unfolding tables_of
    reads_on #f #g env g calls unfolded met M 𝓤 𝓛 𝓜 𝓡 =
        entered 𝓤 𝓛.H (triple_of 𝓛 ended.signature (closing 𝓛 ended (clauses Ends 𝓤))) (tables 𝓤 𝓛.H 𝓜 𝓡 env).C (tables 𝓤 𝓛.H 𝓜 𝓡 env).Λ #f (code #g) (unfolded M 𝓤 𝓛.H 𝓜 𝓡)
        (meets 𝓛 (tables_of 𝓤 𝓛.H 𝓜 (tables 𝓤 𝓛.H 𝓜 𝓡 env)) #g (cited 𝓤 𝓛.H (G 𝓛) 𝓜 𝓡 env #g g calls (met M 𝓤 𝓛 𝓜 𝓡)))
