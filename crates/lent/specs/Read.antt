-- A call that reads a lent state: `fn f(t: &S, p: P, ..) -> R { g(*t, p, ..) }`, for every state S, answer R and list of arguments Ps that are plain data (`Kind.antt`).
-- The state behind the reference is copied whole and passed to g, whose result is returned. All that the walk knows of g is that it meets its contract, `r ≡ answer t (p, ..)`; what f's contract says of what lies behind t (`Ends`) follows from that (`ends`).
-- Assumes nothing.
use Rattle.std.specs.Prelude.{◌≡◌, refl, ℕ, suc, List, [], ◌∷◌}
use Rattle.std.proofs.Common.{ap, ◌∙◌}
use seplogic.Ra.Ura.{Ura}
use mir.Syntax.{Callee, Fn, local, value_local, named, imm, ty_ref, deref, place, copy, rv_opd, seq, assign, call, return}
use mir.Val.{Val, vptr}
use base.Logic.{SProp, ent, emp, via, fst∗, snd∗, ex_e, id⊢}
use base.Fml.{Lft, Share, ftrue, flft}
use prog.Routine.{Routine, Env as Meaning}
use prog.Model.{Model}
use prog.Wp.{Heap, Calls, Loops, WpFn, Closed, Tables}
use types.Logic.{Logic, sem}
use contract.Monad.{fact}
use contract.Running.{Running, tables, tables_of}
use types.Kit.{‵, raw, some, later, ◌⊛◌, ⋆, ◌$◌, ◌∵◌, !, qed, by, move, keep, drop, use0, use1, split, join, pick, fsplit, fjoin, feq_i, suffices, frame, await, done}
use types.Run.{look, look_raw, init, forget, stop, hop, from, load, of_opd, and_then, assigns, land, returns, enter, alloc1, alloc0, params1, pass1, free1, free0}
use sound.WpLaws.{FmC, fm_of, WpFn-mono}
use denote.RattleType.{Denots, Valss, flat, owns}
use denote.Laws.{Is, shows}
use denote.Memory.{pointee, hidden_shr}
use denote.Ref.{Bor, ShrRef, shr_vals, shr_Tells}
use denote.Signature.{plain, shr_ref_to}
use denote.Steps.{looks, shuts, owned, peeks, heard, nothing}
use denote.Struct.Steps.{spelt}
use denote.Triple.Entry.{on_entry}
use denote.Triple.Spec.{Meets, triple_of}
use denote.Triple.Statement.{Contract, Triple}
use denote.Triple.Call.{calls_at}
use denote.Triple.Clauses.{Ended, Clauses, ensured, closing, lasts}
use denote.Triple.Table.{entered, cited}
use denote.Triple.Walked.{says, Stays, stay_none_ref, has_of, walk_of, AllGo, Goes-none_ref, Walks, ends_at, walked, walk_Meets}
use denote.Exit.{yes}
use Rattle.lent.specs.Kind.{Kind, row, Args, Fine, slots, kepts, stays, Ts, out, into, back, spell, told, tell, fine, none_last, all_fit, has_all, owns_all, all_go, count, past, locals, copies, past_is, alloc_all, pass_all, forget_all, free_all, found, opds_at, loads}

module _ (S : Kind) (Ps : List Kind) (R : Kind) where
  -- f's code, over g's name
  abbrev pub code : Callee → Fn
  code #g = record {
    lifetimes = 1;
    outlives = [];
    ty_params = [];
    givens = 0;
    params = suc (count Ps);
    locals = local R.τ value_local ∷ local (ty_ref (named 0) imm (pointee S.written)) value_local ∷ locals Ps (local S.τ value_local ∷ []);
    body = seq (assign (place (suc (suc (past Ps 0))) []) (rv_opd (copy (place 1 (deref S.τ ∷ [])))))
        (seq (call #g (copy (place (suc (suc (past Ps 0))) []) ∷ copies (λ n. suc (suc n)) Ps) (place 0 [])) return);
  }

  abbrev pub f_ended : Ended
  f_ended = record {
    signature = record { lifetimes = 1; outlives = []; params = shr_ref_to (0 ∷ []) tt (plain (λ _. row S)) ∷ slots Ps; result = plain (λ _. row R) };
    kept = (yes, kepts 1 Ps);
  }

  abbrev pub g_ended : Ended
  g_ended = record {
    signature = record { lifetimes = 0; outlives = []; params = plain (λ _. row S) ∷ slots Ps; result = plain (λ _. row R) };
    kept = (yes, kepts 0 Ps);
  }

  abbrev stayed : Stays f_ended.signature.params f_ended.kept
  stayed = (stay_none_ref (0 ∷ []) tt (plain (λ _. row S)) yes, stays 1 Ps)

  -- what the callee answers, what f's contract says of the answer, and how that follows
  module _ (answer : S.D → Args Ps → R.D) (Ends : S.D → Args Ps → R.D → Type 0) (ends : (h : S.D) (x : Args Ps) (r : R.D) → r ≡ answer h x → Ends h x r) where
    abbrev pub f_clauses : {M : Type 1} (𝓤 : Ura M) → Clauses 𝓤 f_ended
    f_clauses 𝓤 κs a = record { ghost = Unit {0}; requires = λ _. emp 𝓤; ensures = λ _ r e. fact 𝓤 (Ends a.0.now (out 1 κs Ps a.1) r) }

    abbrev pub g_clauses : {M : Type 1} (𝓤 : Ura M) → Clauses 𝓤 g_ended
    g_clauses 𝓤 κs a = record { ghost = Unit {0}; requires = λ _. emp 𝓤; ensures = λ _ r e. fact 𝓤 (r ≡ answer a.0 (out 0 κs Ps a.1)) }

    module _ {M : Type 1} {𝓤 : Ura M} (𝓛 : Logic 𝓤) where
      -- the contract that the walk cites
      open 𝓛 use {H}

      abbrev pub G : Contract 𝓤
      G = triple_of 𝓛 g_ended.signature (closing 𝓛 g_ended (g_clauses 𝓤))

      -- of the callee's `ensured`, the clause alone
      got_of : (h : S.D) (a : Denots (Ts 0 tt Ps)) (r : R.D) → ent 𝓤 (ensured 𝓛 g_ended (g_clauses 𝓤) tt (h, a) tt r) (fact 𝓤 (r ≡ answer h (out 0 tt Ps a)))
      got_of h a r = ex_e 𝓤 _ (λ ws. snd∗ 𝓤 (sem 𝓛 (lasts g_ended tt (h, a) ws)) (fact 𝓤 (r ≡ answer h (out 0 tt Ps a))))

      module _ (κ : Lft) (q : Share) (b o : ℕ) (h : S.D) (a : Denots (Ts 1 (κ, tt) Ps)) (ok : Fine Ps (out 1 (κ, tt) Ps a)) where
        abbrev p : Args Ps
        p = out 1 (κ, tt) Ps a

        abbrev x : Bor S.D × Denots (Ts 1 (κ, tt) Ps)
        x = (record { ref_ptr = (b, o); now = h }, a)

        abbrev at : List Val × Valss (Ts 1 (κ, tt) Ps)
        at = (vptr b o ∷ [], told 1 (κ, tt) Ps a)

        abbrev Post : Val → SProp 𝓤
        Post = (walk_of 𝓛 f_ended stayed (f_clauses 𝓤)).post (((κ, tt), (q, tt), tt, x, at), tt)

        exits : (r : R.D) (v : Val) → r ≡ answer h p → ent 𝓤 (⋆ 𝓛 (‵ (flft κ q) ∷ ‵ (hidden_shr (row S) κ h b o) ∷ ‵ (R.own r (v ∷ [])) ∷ [])) (Post v)
        exits r v e =
            qed 𝓛 (‵ (flft κ q) ∷ ‵ (hidden_shr (row S) κ h b o) ∷ ‵ (R.own r (v ∷ [])) ∷ []) ∵
            suffices ! _ (ends_at 𝓛 f_ended stayed (f_clauses 𝓤) (((κ, tt), (q, tt), tt, x, at), tt) v r (tt, none_last 1 (κ, tt) Ps a) (tt, all_fit 1 (κ, tt) Ps a)) $ says ! (ends h p r e) $
            nothing ! $ move ! (1 ∷ 0 ∷ []) $ join ! $ frame ! $ feq_i ! (List Val) (vptr b o ∷ []) (vptr b o ∷ []) refl $ fjoin ! $
            use0 𝓛 (‵ (has_of {n = 1} (κ, tt) (slots Ps) (kepts 1 Ps) (stays 1 Ps) a (none_last 1 (κ, tt) Ps a) (told 1 (κ, tt) Ps a))) (has_all 1 (κ, tt) 𝓛 Ps a ok) $ move ! (1 ∷ 0 ∷ []) $ fjoin ! $ frame ! $ done !

        -- what the callee's triple binds outside, and what it asks at entry
        abbrev b_args : Denots (Ts 0 tt Ps)
        b_args = into 0 tt Ps p

        abbrev to_g : G.Ghost
        to_g = ((tt, tt, tt, (h, b_args), (S.val h ∷ [], told 0 tt Ps b_args)), tt)

        goes_g : Is (row S) h (S.val h ∷ []) → ent 𝓤 (sem 𝓛 ftrue) (G.pre to_g)
        goes_g was =
            qed 𝓛 (‵ ftrue ∷ []) ∵ drop ! $ use0 𝓛 (‵ (owns (Ts 0 tt Ps) b_args (told 0 tt Ps b_args))) (owns_all 0 tt 𝓛 Ps p ok) $
            owned ! (row S) (Is (row S)) (S.makes 𝓛) h _ was $ fjoin ! $ nothing ! $ join ! $ frame ! $ done !

        module _ (C : Calls 𝓤 H) (Λ : Loops 𝓤 H) (fm : FmC 𝓤 H 𝓛.laws C) (#g : Callee) (known : Triple 𝓤 (C #g) G) where
          walk : ent 𝓤 (on_entry 𝓛 f_ended.signature (κ, tt) (q, tt) x at) (WpFn 𝓤 H C Λ (code #g) (vptr b o ∷ flat (Ts 1 (κ, tt) Ps) (told 1 (κ, tt) Ps a)) Post)
          walk =
              qed 𝓛 ((‵ (flft κ q) ⊛ ‵ ftrue) ∷ ‵ (owns (ShrRef (named 0) κ (row S) ∷ Ts 1 (κ, tt) Ps) x at) ∷ []) ∵ enter ! C Λ (code #g) (vptr b o ∷ flat (Ts 1 (κ, tt) Ps) (told 1 (κ, tt) Ps a)) _ $
              alloc1 ! (λ l0. alloc1 ! (λ l1. alloc_all ! Ps (λ bs. alloc1 ! (λ l2. alloc0 ! $ params1 ! $ pass1 ! (init ! 3 refl (tt, tt)) $ move ! (2 ∷ []) $ pass_all ! 1 (κ, tt) Ps bs a ok ((S.τ, l2) ∷ []) $
              -- [the arguments' locals; the others from the last to the first, two items each; the token; what the parameters own]: the arguments go to the end, and what the reference owns is taken apart
              move ! (1 ∷ 2 ∷ 3 ∷ 4 ∷ 5 ∷ 6 ∷ 7 ∷ 8 ∷ []) $
              move ! (7 ∷ []) $ fsplit ! $ fsplit ! $ drop ! $ move ! (8 ∷ []) $ split ! $ move ! (2 ∷ 0 ∷ []) $
              looks ! tt (row S) (S.opens 𝓛) h b o (λ q' vs. spelt ! (row S) (Is (row S)) (shows 𝓛 (row S)) (λ y. S.val y ∷ []) S.tells q' h vs b o $
              move ! (1 ∷ []) $ peeks ! (row S) (Is (row S)) (shows 𝓛 (row S)) h (S.val h ∷ []) (λ was. move ! (1 ∷ 0 ∷ []) $
              -- [the state's cell; what it owns; what shuts it; .. ; the locals; the arguments' locals]: the state is copied
              assigns ! (of_opd ! (load ! (from ! (hop ! (look ! 8 refl) (stop !))) (look_raw ! 0 refl))) (found ! (past_is Ps bs _ 0 _)) (init ! 6 refl (S.typed 𝓛 h _ was).0) $
              shuts ! tt (row S) q' h (S.val h ∷ []) b o $
              -- the call
              nothing ! $ use1 𝓛 (raw (G.pre to_g)) (goes_g was) $ calls_at ! fm G known to_g (and_then ! (load ! (found ! (past_is Ps bs _ 0 _)) (look ! 5 refl)) (opds_at ! 11 refl (loads ! 0 tt Ps (λ n. suc (suc n)) ((S.τ, l2) ∷ []) bs (λ j. refl) p))) (λ v.
              use1 𝓛 (later (some (λ (r : R.D). (‵ ftrue ⊛ ‵ (R.own r (v ∷ []))) ⊛ raw (ensured 𝓛 g_ended (g_clauses 𝓤) tt (h, b_args) tt r)))) (id⊢ 𝓤 _) $ await ! tt $ pick ! (λ r.
              split ! $ move ! (1 ∷ []) $ use1 𝓛 (raw (fact 𝓤 (r ≡ answer h (out 0 tt Ps b_args)))) (got_of h b_args r) $ heard ! (r ≡ answer h (out 0 tt Ps b_args)) (λ e. split ! $ drop ! $
              peeks ! (row R) (Is (row R)) (shows 𝓛 (row R)) r (v ∷ []) (λ is. land ! (from ! (stop !)) (init ! 9 refl (R.typed 𝓛 r _ is).0) $
              returns ! (look ! 9 refl) $ forget ! 5 refl $ forget ! 7 refl $ forget ! 9 refl $
              move ! (9 ∷ 10 ∷ []) $ free1 ! $ move ! (7 ∷ 8 ∷ []) $ free1 ! $ move ! (7 ∷ []) $ forget_all ! Ps bs p $ free_all ! Ps bs $ move ! (5 ∷ 6 ∷ []) $ free1 ! $ free0 ! $
              keep ! (1 ∷ 2 ∷ 0 ∷ []) $ by ! (exits r v (e ∙ ap (answer h) (back 0 tt Ps p)))))))))))))

      module _ where
        walks : (C : Calls 𝓤 H) (Λ : Loops 𝓤 H) → FmC 𝓤 H 𝓛.laws C → (#g : Callee) → Triple 𝓤 (C #g) G → Walks 𝓛 f_ended stayed (WpFn 𝓤 H C Λ (code #g)) (f_clauses 𝓤)
        walks C Λ fm #g known = walked 𝓛 f_ended stayed (f_clauses 𝓤) (WpFn 𝓤 H C Λ (code #g))
            (λ κs. (shr_vals, spell 1 κs Ps)) (λ κs. (shr_Tells (named 0) κs.0 (row S), tell 1 κs Ps))
            (λ κs qs bounds a _ are. via 𝓤 _ (fst∗ 𝓤 _ (emp 𝓤)) (walk κs.0 qs.0 a.0.ref_ptr.0 a.0.ref_ptr.1 a.0.now a.1 (fine 1 κs Ps a.1 are.1) C Λ fm #g known))

        goes : AllGo 𝓛 1 f_ended.signature.params f_ended.kept stayed
        goes = (Goes-none_ref 𝓛 1 (0 ∷ []) tt (plain (λ _. row S)) yes, all_go 𝓛 1 Ps)

        meets : (𝓣 : Tables 𝓤 H) (#g : Callee) → Triple 𝓤 (𝓣.C #g) G → Meets 𝓛 f_ended.signature (WpFn 𝓤 H 𝓣.C 𝓣.Λ (code #g)) (closing 𝓛 f_ended (f_clauses 𝓤))
        meets 𝓣 #g known = walk_Meets 𝓛 f_ended stayed goes (f_clauses 𝓤) (WpFn 𝓤 H 𝓣.C 𝓣.Λ (code #g)) (WpFn-mono 𝓤 H 𝓛.laws 𝓣 (code #g)) (walks 𝓣.C 𝓣.Λ (fm_of 𝓤 H 𝓛.laws 𝓣) #g known)

    -- the theorem, of a function #f with that code and of a callee #g with that contract
    pub reads : (#f #g : Callee) (env : Meaning) (g : Routine) → env #g ≡ g
        → ((M : Type 1) (𝓤 : Ura M) (H : Heap 𝓤) (𝓜 : Model 𝓤 H) (𝓡 : Running 𝓤 H 𝓜) → Closed 𝓤 H (tables 𝓤 H 𝓜 𝓡 env).C (tables 𝓤 H 𝓜 𝓡 env).Λ #f (code #g))
        → ((M : Type 1) (𝓤 : Ura M) (𝓛 : Logic 𝓤) (𝓜 : Model 𝓤 𝓛.H) (𝓡 : Running 𝓤 𝓛.H 𝓜) → Triple 𝓤 (𝓡.run g) (G 𝓛))
        → (M : Type 1) (𝓤 : Ura M) (𝓛 : Logic 𝓤) (𝓜 : Model 𝓤 𝓛.H) (𝓡 : Running 𝓤 𝓛.H 𝓜) → Meets 𝓛 f_ended.signature (𝓡.run (env #f)) (closing 𝓛 f_ended (f_clauses 𝓤))
    unfolding tables_of
    reads #f #g env g calls unfolded met M 𝓤 𝓛 𝓜 𝓡 =
        entered 𝓤 𝓛.H (triple_of 𝓛 f_ended.signature (closing 𝓛 f_ended (f_clauses 𝓤))) (tables 𝓤 𝓛.H 𝓜 𝓡 env).C (tables 𝓤 𝓛.H 𝓜 𝓡 env).Λ #f (code #g) (unfolded M 𝓤 𝓛.H 𝓜 𝓡)
        (meets 𝓛 (tables_of 𝓤 𝓛.H 𝓜 (tables 𝓤 𝓛.H 𝓜 𝓡 env)) #g (cited 𝓤 𝓛.H (G 𝓛) 𝓜 𝓡 env #g g calls (met M 𝓤 𝓛 𝓜 𝓡)))
