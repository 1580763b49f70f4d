-- Every way through add_dcid on views: what the definition gives, by what its tests say.
use Rattle.std.specs.Prelude.{ℕ, ◌*◌, ◌≤◌, ◌<◌, ◌≡◌, List, [], ◌∷◌, ◌++◌, map, Bool, cond, ltb, length}
use Rattle.std.proofs.Common.{ap, ap₂, ◌∙◌, lt-ltb, le-ltb, le-leb}
use Rattle.std.proofs.lemmas.Bool.{lt-leb}
use Rattle.lists.specs.Defs.{has, keep}
use Rattle.values.specs.Limits.{queue_slots, retire_factor, capacity_of}
use Rattle.values.specs.declared.used.UsedSeq.{UsedSeq}
use Rattle.ids_rules.specs.Values.{Item, seq_of, below}
use Rattle.ids_rules.specs.View.{View, Out, refused, accepted, Retired}
use Rattle.ids_rules.specs.With.{with_dcids, with_dcids_to_retire}
use Rattle.ids_rules.specs.Steps.{too_many, append, queue_late, pairs, lowered, raise, add_new}

-- ---- the ways, on any view

module _ (s : ℕ) (v : View) where
  abbrev later : View
  later = with_dcids_to_retire (v.dcids_to_retire ++ (s ∷ [])) v

  pub late_full : queue_slots ≤ length v.dcids_to_retire → queue_late s v ≡ refused 6 v
  late_full h = ap (λ (b : Bool). cond b (refused 6 v) (cond (too_many later) (refused 4 later) (accepted (Retired []) later))) (le-leb queue_slots (length v.dcids_to_retire) h)

  module _ (h : length v.dcids_to_retire < queue_slots) where
    late_room : queue_late s v ≡ cond (too_many later) (refused 4 later) (accepted (Retired []) later)
    late_room = ap (λ (b : Bool). cond b (refused 6 v) (cond (too_many later) (refused 4 later) (accepted (Retired []) later))) (lt-leb queue_slots (length v.dcids_to_retire) h)

    pub late_many : retire_factor * v.dcid_limit < length (v.dcids_to_retire ++ (s ∷ [])) → queue_late s v ≡ refused 4 (with_dcids_to_retire (v.dcids_to_retire ++ (s ∷ [])) v)
    late_many k = late_room ∙ ap (λ (b : Bool). cond b (refused 4 later) (accepted (Retired []) later)) (lt-ltb (retire_factor * v.dcid_limit) (length (v.dcids_to_retire ++ (s ∷ []))) k)

    pub late_ok : length (v.dcids_to_retire ++ (s ∷ [])) ≤ retire_factor * v.dcid_limit → queue_late s v ≡ accepted (Retired []) (with_dcids_to_retire (v.dcids_to_retire ++ (s ∷ [])) v)
    late_ok k = late_room ∙ ap (λ (b : Bool). cond b (refused 4 later) (accepted (Retired []) later)) (le-ltb (retire_factor * v.dcid_limit) (length (v.dcids_to_retire ++ (s ∷ []))) k)

module _ (x : Item) (l : List UsedSeq) (v : View) where
  pub append_full : capacity_of v.dcid_limit ≤ length v.dcids → append x l v ≡ refused 3 v
  append_full h = ap (λ (b : Bool). cond b (refused 3 v) (accepted (Retired l) (with_dcids (v.dcids ++ (x ∷ [])) v))) (le-leb (capacity_of v.dcid_limit) (length v.dcids) h)

  pub append_ok : length v.dcids < capacity_of v.dcid_limit → append x l v ≡ accepted (Retired l) (with_dcids (v.dcids ++ (x ∷ [])) v)
  append_ok h = ap (λ (b : Bool). cond b (refused 3 v) (accepted (Retired l) (with_dcids (v.dcids ++ (x ∷ [])) v))) (lt-leb (capacity_of v.dcid_limit) (length v.dcids) h)

-- ---- a Retire Prior To above the largest

module _ (x : Item) (b : ℕ) (v : View) where
  abbrev pub queued : List ℕ
  queued = v.dcids_to_retire ++ map seq_of (keep (below b) v.dcids)

  abbrev rest : Out
  rest = cond (too_many (lowered b v)) (refused 4 (lowered b v)) (append x (pairs (keep (below b) v.dcids)) (lowered b v))

  pub raise_full : queue_slots < length (v.dcids_to_retire ++ map seq_of (keep (below b) v.dcids)) → raise x b v ≡ refused 6 v
  raise_full h = ap (λ (t : Bool). cond t (refused 6 v) rest) (lt-ltb queue_slots (length queued) h)

  module _ (h : length (v.dcids_to_retire ++ map seq_of (keep (below b) v.dcids)) ≤ queue_slots) where
    raise_room : raise x b v ≡ cond (too_many (lowered b v)) (refused 4 (lowered b v)) (append x (pairs (keep (below b) v.dcids)) (lowered b v))
    raise_room = ap (λ (t : Bool). cond t (refused 6 v) rest) (le-ltb queue_slots (length queued) h)

    pub raise_many : retire_factor * v.dcid_limit < length (v.dcids_to_retire ++ map seq_of (keep (below b) v.dcids)) → raise x b v ≡ refused 4 (lowered b v)
    raise_many k = raise_room ∙ ap (λ (t : Bool). cond t (refused 4 (lowered b v)) (append x (pairs (keep (below b) v.dcids)) (lowered b v))) (lt-ltb (retire_factor * v.dcid_limit) (length queued) k)

    pub raise_on : length (v.dcids_to_retire ++ map seq_of (keep (below b) v.dcids)) ≤ retire_factor * v.dcid_limit → raise x b v ≡ append x (pairs (keep (below b) v.dcids)) (lowered b v)
    raise_on k = raise_room ∙ ap (λ (t : Bool). cond t (refused 4 (lowered b v)) (append x (pairs (keep (below b) v.dcids)) (lowered b v))) (le-ltb (retire_factor * v.dcid_limit) (length queued) k)

-- ---- past the first item with equal ID or sequence

module _ (x : Item) (b : ℕ) (v : View) where
  abbrev new3 : Bool → Out
  new3 r = cond r (raise x b v) (append x [] v)

  abbrev new2 : Bool → Bool → Bool → Out
  new2 q w r = cond q (cond w (accepted (Retired []) v) (queue_late x.seq v)) (new3 r)

  -- add_new, by what its four tests say
  pub new_is : (p q w r : Bool) → ltb x.seq b ≡ p → ltb x.seq v.largest_peer_retire_prior_to ≡ q → has x.seq v.dcids_to_retire ≡ w → ltb v.largest_peer_retire_prior_to b ≡ r
      → add_new x b v ≡ cond p (refused 4 v) (cond q (cond w (accepted (Retired []) v) (queue_late x.seq v)) (cond r (raise x b v) (append x [] v)))
  new_is p q w r ep eq ew er =
      ap (λ (t : Bool). cond t (refused 4 v) (new2 (ltb x.seq v.largest_peer_retire_prior_to) (has x.seq v.dcids_to_retire) (ltb v.largest_peer_retire_prior_to b))) ep
      ∙ ap₂ (λ (t u : Bool). cond p (refused 4 v) (new2 t u (ltb v.largest_peer_retire_prior_to b))) eq ew ∙ ap (λ (t : Bool). cond p (refused 4 v) (new2 q w t)) er
