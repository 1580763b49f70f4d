-- A call that changes a lent state: `fn f(t: &mut S, p: P, ..) -> R { let a = g(*t, p, ..); <stores>; a.answer }`, for every state S, every struct A that g gives, every answer R and list of arguments Ps (`Kind.antt`).
-- Here is what does not depend on the stores: the two contracts, what the callee asks and gives, what stands at exit, and how a walk of the code (`Walked`; `Store.antt`, `vignorasc`'s `Element.antt`) is taken to the theorem (`keeps`).
-- All that is known of g is that it meets its contract, `Says t (p, ..) r`. What f's contract says (`Ends`) follows from that (`ends`).
-- Assumes nothing.
use Rattle.std.specs.Prelude.{◌≡◌, refl, ℕ, List, [], ◌∷◌}
use seplogic.Ra.Ura.{Ura}
use mir.Syntax.{Callee, Fn, named}
use mir.Val.{Val, vptr}
use base.Logic.{SProp, ent, emp, via, fst∗, snd∗, ex_e}
use base.Fml.{GName, Lft, Share, ftrue, flft, fobs, fbor}
use prog.Routine.{Routine, Env as Meaning}
use prog.Model.{Model}
use prog.Wp.{Heap, Calls, Loops, WpFn, Closed, Tables}
use types.Logic.{Logic, sem}
use contract.Monad.{fact}
use contract.Running.{Running, tables, tables_of}
use types.Kit.{‵, ⋆, ◌$◌, ◌∵◌, !, qed, move, drop, use0, join, fjoin, fjoin3, feq_i, suffices, frame, done}
use types.SemTy.{Body as Lies}
use sound.WpLaws.{FmC, fm_of, WpFn-mono}
use denote.RattleType.{Denots, flat, owns}
use denote.Laws.{Is}
use denote.Memory.{mem}
use denote.Ref.{mut_vals, mut_Tells}
use denote.Signature.{plain, mut_ref_to}
use denote.Steps.{owned, nothing}
use denote.Triple.Entry.{on_entry}
use denote.Triple.Spec.{Meets, triple_of}
use denote.Triple.Statement.{Contract, Triple}
use denote.Triple.Clauses.{Ended, Clauses, ensured, closing, lasts}
use denote.Triple.Table.{entered, cited}
use denote.Triple.Walked.{says, Stays, stay_ref, has_of, walk_of, AllGo, Goes-ref, Walks, ends_at, walked, walk_Meets}
use denote.Exit.{yes}
use denote.Struct.Laws as LL
use Rattle.lent.specs.Kind.{Kind, row, Sort, Fields, kind, Part, Args, Fine, slots, kepts, stays, Ts, out, into, spell, told, tell, fine, none_last, all_fit, has_all, owns_all, all_go}

-- the call: its types, which field of g's struct is the answer, what the stores leave behind the reference, and the two contracts
pub record Call : Type 2 where
  pub S : Sort
  pub Ps : List Kind
  pub A : Sort
  pub R : Kind
  pub answer : Part A R
  pub stored : S.T.D → A.T.D → S.T.D
  pub Says : S.T.D → Args Ps → A.T.D → Type 0
  -- of the answer, and of what stands behind the reference at exit
  pub Ends : S.T.D → Args Ps → R.D → S.T.D → Type 0
  pub ends : (h : S.T.D) (x : Args Ps) (r : A.T.D) → Says h x r → Ends h x (answer.get r) (stored h r)

module _ (c : Call) where
  open c use {S, Ps, A, R, answer, stored, Says, Ends, ends}

  abbrev get : A.T.D → R.D
  get r = answer.get r

  abbrev pub f_ended : Ended
  f_ended = record {
    signature = record { lifetimes = 1; outlives = []; params = mut_ref_to (0 ∷ []) tt (plain (λ _. row (kind S))) ∷ slots Ps; result = plain (λ _. row R) };
    kept = (yes, kepts 1 Ps);
  }

  abbrev pub g_ended : Ended
  g_ended = record {
    signature = record { lifetimes = 0; outlives = []; params = plain (λ _. row (kind S)) ∷ slots Ps; result = plain (λ _. row (kind A)) };
    kept = (yes, kepts 0 Ps);
  }

  abbrev pub stayed : Stays f_ended.signature.params f_ended.kept
  stayed = (stay_ref (0 ∷ []) tt (plain (λ _. row (kind S))), stays 1 Ps)

  abbrev pub f_clauses : {M : Type 1} (𝓤 : Ura M) → Clauses 𝓤 f_ended
  f_clauses 𝓤 κs a = record { ghost = Unit {0}; requires = λ _. emp 𝓤; ensures = λ _ r e. fact 𝓤 (Ends a.0.now (out 1 κs Ps a.1) r e.0.now) }

  abbrev pub g_clauses : {M : Type 1} (𝓤 : Ura M) → Clauses 𝓤 g_ended
  g_clauses 𝓤 κs a = record { ghost = Unit {0}; requires = λ _. emp 𝓤; ensures = λ _ r e. fact 𝓤 (Says a.0 (out 0 κs Ps a.1) r) }

  module _ {M : Type 1} {𝓤 : Ura M} (𝓛 : Logic 𝓤) where
    -- the contract that the walk cites
    abbrev pub G : Contract 𝓤
    G = triple_of 𝓛 g_ended.signature (closing 𝓛 g_ended (g_clauses 𝓤))

    -- of the callee's `ensured`, the clause alone
    pub got_of : (h : S.T.D) (a : Denots (Ts 0 tt Ps)) (r : A.T.D) → ent 𝓤 (ensured 𝓛 g_ended (g_clauses 𝓤) tt (h, a) tt r) (fact 𝓤 (Says h (out 0 tt Ps a) r))
    got_of h a r = ex_e 𝓤 _ (λ ws. snd∗ 𝓤 (sem 𝓛 (lasts g_ended tt (h, a) ws)) (fact 𝓤 (Says h (out 0 tt Ps a) r)))

    -- what the callee's triple binds outside, and what it asks at entry
    module _ (κ : Lft) (h : S.T.D) (a : Denots (Ts 1 (κ, tt) Ps)) where
      abbrev pub p : Args Ps
      p = out 1 (κ, tt) Ps a

      abbrev pub b_args : Denots (Ts 0 tt Ps)
      b_args = into 0 tt Ps p

      abbrev pub to_g : G.Ghost
      to_g = ((tt, tt, tt, (h, b_args), ((kind S).val h ∷ [], told 0 tt Ps b_args)), tt)

      pub goes_g : Fine Ps p → Is (row (kind S)) h ((kind S).val h ∷ []) → ent 𝓤 (sem 𝓛 ftrue) (G.pre to_g)
      goes_g ok was =
          qed 𝓛 (‵ ftrue ∷ []) ∵ drop ! $ use0 𝓛 (‵ (owns (Ts 0 tt Ps) b_args (told 0 tt Ps b_args))) (owns_all 0 tt 𝓛 Ps p ok) $
          owned ! (row (kind S)) (Is (row (kind S))) ((kind S).makes 𝓛) h _ was $ fjoin ! $ nothing ! $ join ! $ frame ! $ done !

      module _ (q : Share) (b o : ℕ) (γ : GName) where
        abbrev pub Post' : Val → SProp 𝓤
        Post' = (walk_of 𝓛 f_ended stayed (f_clauses 𝓤)).post (((κ, tt), (q, tt), tt, (record { ref_ptr = (b, o); ghost_name = γ; now = h }, a), (vptr b o ∷ [], told 1 (κ, tt) Ps a)), tt)

        pub exits : Fine Ps p → (r : A.T.D) → Is (row R) (get r) (R.val (get r) ∷ []) → Says h p r → ent 𝓤 (⋆ 𝓛 (‵ (fobs γ ((kind S).coded.code (stored h r))) ∷ ‵ (fbor κ (Lies (mem (row (kind S))) b o γ)) ∷ ‵ (flft κ q) ∷ [])) (Post' (R.val (get r)))
        exits ok r is e =
            qed 𝓛 (‵ (fobs γ ((kind S).coded.code (stored h r))) ∷ ‵ (fbor κ (Lies (mem (row (kind S))) b o γ)) ∷ ‵ (flft κ q) ∷ []) ∵
            suffices ! _ (ends_at 𝓛 f_ended stayed (f_clauses 𝓤) (((κ, tt), (q, tt), tt, (record { ref_ptr = (b, o); ghost_name = γ; now = h }, a), (vptr b o ∷ [], told 1 (κ, tt) Ps a)), tt) (R.val (get r)) (get r) (stored h r, none_last 1 (κ, tt) Ps a) (tt, all_fit 1 (κ, tt) Ps a)) $ says ! (ends h p r e) $
            nothing ! $ move ! (3 ∷ 0 ∷ []) $ join ! $ frame ! $ feq_i ! (List Val) (vptr b o ∷ []) (vptr b o ∷ []) refl $ fjoin3 ! $
            use0 𝓛 (‵ (has_of {n = 1} (κ, tt) (slots Ps) (kepts 1 Ps) (stays 1 Ps) a (none_last 1 (κ, tt) Ps a) (told 1 (κ, tt) Ps a))) (has_all 1 (κ, tt) 𝓛 Ps a ok) $ move ! (1 ∷ 0 ∷ []) $ fjoin ! $
            owned ! (row R) (Is (row R)) (R.makes 𝓛) (get r) _ is $ move ! (1 ∷ 0 ∷ []) $ done !

  -- each field's relation, of the struct that the callee gave
  pub its : (r : A.T.D) (v : Val) → Is (row (kind A)) r (v ∷ []) → Fields A r
  its r v got = LL.owed A.T A.L r (v ∷ []) got

  -- what a walk of the function's code shows
  abbrev pub Walked : (Callee → Fn) → Type 2
  Walked code = (M : Type 1) (𝓤 : Ura M) (𝓛 : Logic 𝓤) (κ : Lft) (q : Share) (b o : ℕ) (γ : GName) (h : S.T.D) (a : Denots (Ts 1 (κ, tt) Ps)) (ok : Fine Ps (out 1 (κ, tt) Ps a))
      (C : Calls 𝓤 𝓛.H) (Λ : Loops 𝓤 𝓛.H) → FmC 𝓤 𝓛.H 𝓛.laws C → (#g : Callee) → Triple 𝓤 (C #g) (G 𝓛)
      → ent 𝓤 (on_entry 𝓛 f_ended.signature (κ, tt) (q, tt) (record { ref_ptr = (b, o); ghost_name = γ; now = h }, a) (vptr b o ∷ [], told 1 (κ, tt) Ps a)) (WpFn 𝓤 𝓛.H C Λ (code #g) (vptr b o ∷ flat (Ts 1 (κ, tt) Ps) (told 1 (κ, tt) Ps a)) (Post' 𝓛 κ h a q b o γ))

  -- the theorem, of a function #f with that code and of a callee #g with that contract
  abbrev pub Theorem : (Callee → Fn) → Type 2
  Theorem code = (#f #g : Callee) (env : Meaning) (g : Routine) → env #g ≡ g
      → ((M : Type 1) (𝓤 : Ura M) (H : Heap 𝓤) (𝓜 : Model 𝓤 H) (𝓡 : Running 𝓤 H 𝓜) → Closed 𝓤 H (tables 𝓤 H 𝓜 𝓡 env).C (tables 𝓤 H 𝓜 𝓡 env).Λ #f (code #g))
      → ((M : Type 1) (𝓤 : Ura M) (𝓛 : Logic 𝓤) (𝓜 : Model 𝓤 𝓛.H) (𝓡 : Running 𝓤 𝓛.H 𝓜) → Triple 𝓤 (𝓡.run g) (G 𝓛))
      → (M : Type 1) (𝓤 : Ura M) (𝓛 : Logic 𝓤) (𝓜 : Model 𝓤 𝓛.H) (𝓡 : Running 𝓤 𝓛.H 𝓜) → Meets 𝓛 f_ended.signature (𝓡.run (env #f)) (closing 𝓛 f_ended (f_clauses 𝓤))

  module _ (code : Callee → Fn) (walk : Walked code) where
    module _ {M : Type 1} {𝓤 : Ura M} (𝓛 : Logic 𝓤) where
      open 𝓛 use {H}

      walks : (C : Calls 𝓤 H) (Λ : Loops 𝓤 H) → FmC 𝓤 H 𝓛.laws C → (#g : Callee) → Triple 𝓤 (C #g) (G 𝓛) → Walks 𝓛 f_ended stayed (WpFn 𝓤 H C Λ (code #g)) (f_clauses 𝓤)
      walks C Λ fm #g known = walked 𝓛 f_ended stayed (f_clauses 𝓤) (WpFn 𝓤 H C Λ (code #g))
          (λ κs. (mut_vals, spell 1 κs Ps)) (λ κs. (mut_Tells (named 0) κs.0 (row (kind S)), tell 1 κs Ps))
          (λ κs qs bounds a _ are. via 𝓤 _ (fst∗ 𝓤 _ (emp 𝓤)) (walk M 𝓤 𝓛 κs.0 qs.0 a.0.ref_ptr.0 a.0.ref_ptr.1 a.0.ghost_name a.0.now a.1 (fine 1 κs Ps a.1 are.1) C Λ fm #g known))

      goes : AllGo 𝓛 1 f_ended.signature.params f_ended.kept stayed
      goes = (Goes-ref 𝓛 1 0 tt (plain (λ _. row (kind S))), all_go 𝓛 1 Ps)

      meets : (𝓣 : Tables 𝓤 H) (#g : Callee) → Triple 𝓤 (𝓣.C #g) (G 𝓛) → Meets 𝓛 f_ended.signature (WpFn 𝓤 H 𝓣.C 𝓣.Λ (code #g)) (closing 𝓛 f_ended (f_clauses 𝓤))
      meets 𝓣 #g known = walk_Meets 𝓛 f_ended stayed goes (f_clauses 𝓤) (WpFn 𝓤 H 𝓣.C 𝓣.Λ (code #g)) (WpFn-mono 𝓤 H 𝓛.laws 𝓣 (code #g)) (walks 𝓣.C 𝓣.Λ (fm_of 𝓤 H 𝓛.laws 𝓣) #g known)

    pub keeps : Theorem code
    unfolding tables_of
    keeps #f #g env g calls unfolded met M 𝓤 𝓛 𝓜 𝓡 =
        entered 𝓤 𝓛.H (triple_of 𝓛 f_ended.signature (closing 𝓛 f_ended (f_clauses 𝓤))) (tables 𝓤 𝓛.H 𝓜 𝓡 env).C (tables 𝓤 𝓛.H 𝓜 𝓡 env).Λ #f (code #g) (unfolded M 𝓤 𝓛.H 𝓜 𝓡)
        (meets 𝓛 (tables_of 𝓤 𝓛.H 𝓜 (tables 𝓤 𝓛.H 𝓜 𝓡 env)) #g (cited 𝓤 𝓛.H (G 𝓛) 𝓜 𝓡 env #g g calls (met M 𝓤 𝓛 𝓜 𝓡)))
