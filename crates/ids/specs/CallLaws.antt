-- The published calls: what was tested chooses between the step and refusal 1.
use Rattle.std.specs.Prelude.{ℕ, ◌≡◌, Bool, true, not, cond, ◌&&◌, ◌||◌, eqb, length}
use Rattle.std.proofs.Common.{sym, ap, ap₂, ◌∙◌}
use Rattle.lists.specs.Defs.{empty, keep}
use Rattle.lists.specs.Bools.{and_both}
use Rattle.values.specs.Cid.{id_formed}
use Rattle.values.specs.Token.{token_formed_of}
use Rattle.values.specs.declared.token.Token.{Token}
use Rattle.values.specs.declared.cid.ConnectionId.{ConnectionId}
use Rattle.values.specs.Answers.{counted_at}
use Rattle.ids_rules.specs.Values.{unused}
use Rattle.ids_rules.specs.Calls.{reply, UnusedDcids}
use Rattle.ids_state.specs.Formed.{well_formed}
use Rattle.ids_state.specs.declared.state.Ids.{Ids}
use Rattle.ids.specs.Reading.{view, path_formed_of, counted_of, checked}
use Rattle.ids.specs.ReadingLaws.{advertise_long, retire_long}
use Rattle.ids.specs.Carry.{empty_is}

module _ (s : Ids) where
  -- v: what the tests said
  pub chosen : {A : Type 0} (f : Bool) (x y : A) (v : Bool) → (well_formed s && f) ≡ v → cond v x y ≡ checked s f x y
  chosen f x y v e = ap (λ (b : Bool). cond b x y) (sym e)

  -- what the test of an ID, a token and a path says
  pub ids_each : (cid : ConnectionId) (token : Token) (has : Bool) (path : ℕ) → (well_formed s && (id_formed cid && token_formed_of token && path_formed_of has path)) ≡ true
      → (well_formed s ≡ true) × (token_formed_of token ≡ true) × (path_formed_of has path ≡ true)
  ids_each cid token has path e =
      let p = and_both (well_formed s) _ e in
      let q = and_both (id_formed cid && token_formed_of token) _ p.1 in
      (p.0, (and_both (id_formed cid) _ q.0).1, q.1)

-- whether one of two queues has an entry
pub any_entry : (s : Ids) → well_formed s ≡ true → (not (eqb s.dcids_to_retire.count 0) || not (eqb s.scids_to_advertise.count 0)) ≡ (not (empty (view s).dcids_to_retire) || not (empty (view s).scids_to_advertise))
any_entry s w =
    ap₂ (λ (m n : ℕ). not (eqb m 0) || not (eqb n 0)) (sym (retire_long s w)) (sym (advertise_long s w))
    ∙ ap₂ (λ (a b : Bool). not a || not b) (sym (empty_is (view s).dcids_to_retire)) (sym (empty_is (view s).scids_to_advertise))

pub zero_dcids : (s : Ids) (b : Bool) → s.zero_length_dcid ≡ b → counted_at 0 (cond b 0 (length (keep unused (view s).dcids))) ≡ counted_of (reply (view s) UnusedDcids)
zero_dcids s b e = ap (λ (t : Bool). counted_at 0 (cond t 0 (length (keep unused (view s).dcids)))) (sym e)
