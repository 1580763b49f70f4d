-- docs/RULES.md, "Source IDs", "Destination IDs" and "Marks, queues and lookups": each call that changes the IDs, its checks in their order.
use Rattle.std.specs.Prelude.{ℕ, ◌+◌, ◌*◌, min, max, List, [], ◌∷◌, ◌++◌, map, Bool, true, false, cond, not, ◌&&◌, length, eqb, leb, ltb}
use Rattle.std.proofs.Math.Option.{Option, none, some}
use Rattle.lists.specs.Defs.{maybe, present, first, keep, any, least, has}
use Rattle.values.specs.declared.cid.ConnectionId.{ConnectionId}
use Rattle.values.specs.Cid.{empty_id, same_id, id_formed}
use Rattle.values.specs.Limits.{max_dcid_limit, min_scid_limit, max_cids_count, max_sequence, queue_slots, retire_factor, capacity_of}
use Rattle.ids_rules.specs.Values.{Item, on_path, seq_of, has_seq, from, below, clashes, repeats}
use Rattle.values.specs.declared.used.UsedSeq.{UsedSeq}
use Rattle.ids_rules.specs.View.{View, Nothing, Issued, Freed, Retired, Out, refused, accepted}
use Rattle.ids_rules.specs.With.{with_scids, with_dcids, with_scid_limit, with_scid_capacity, with_zero_length_dcid, with_next_scid_seq, with_retire_prior_to, with_largest_peer_retire_prior_to, with_scids_to_advertise, with_dcids_to_retire}

-- ---- fresh: one item, sequence 0, limit 2, capacity 3, next 1

abbrev pub fresh : ℕ → ConnectionId → ℕ → Option (List ℕ) → View
fresh dcid_limit cid path token = record {
  scids = record { cid = cid; seq = 0; token = token; path = some path } ∷ [];
  dcids = [];
  dcid_limit = dcid_limit;
  scid_limit = min_scid_limit;
  scid_capacity = capacity_of min_scid_limit;
  zero_length_scid = empty_id cid;
  zero_length_dcid = false;
  next_scid_seq = 1;
  retire_prior_to = 0;
  largest_peer_retire_prior_to = 0;
  scids_to_advertise = [];
  dcids_to_retire = [];
}

-- a refused fresh call gives an all-zero state
abbrev pub zero_view : View
zero_view = record { scids = []; dcids = []; dcid_limit = 0; scid_limit = 0; scid_capacity = 0; zero_length_scid = false; zero_length_dcid = false; next_scid_seq = 0; retire_prior_to = 0; largest_peer_retire_prior_to = 0; scids_to_advertise = []; dcids_to_retire = [] }

abbrev pub fresh_formed : ℕ → ConnectionId → Bool
fresh_formed dcid_limit cid = leb 1 dcid_limit && leb dcid_limit max_dcid_limit && id_formed cid

abbrev pub fresh_call : ℕ → ConnectionId → ℕ → Option (List ℕ) → Out
fresh_call dcid_limit cid path token = cond (fresh_formed dcid_limit cid) (accepted Nothing (fresh dcid_limit cid path token)) (refused 1 zero_view)

-- ---- source IDs

-- clamps to 2..16 and only raises capacity
abbrev pub set_scid_limit : ℕ → View → Out
set_scid_limit n v = let limit : ℕ = max min_scid_limit (min n max_cids_count) in accepted Nothing (with_scid_limit limit (with_scid_capacity (max v.scid_capacity (capacity_of limit)) v))

-- the lowest sequence not below b
abbrev pub lowest_from : ℕ → List Item → Option ℕ
lowest_from b l = least (map seq_of (keep (from b) l))

-- the mark goes to the end of the queue; or every earlier one is removed
abbrev pub marked : ℕ → Bool → List ℕ → List ℕ
marked s true l = l ++ (s ∷ [])
marked s false l = keep (λ (n : ℕ). not (eqb s n)) l

-- success adds at the end and raises next; with advertise the sequence goes to the end of the advertise queue, without, every earlier mark of it is removed
abbrev pub issued : Item → Bool → View → View
issued x advertise v = with_scids (v.scids ++ (x ∷ [])) (with_next_scid_seq (v.next_scid_seq + 1) (with_scids_to_advertise (marked v.next_scid_seq advertise v.scids_to_advertise) v))

-- no token: 2. Table full: 3. These keep the raised Retire Prior To, of the view w; 6 leaves the view v as it was
abbrev pub issue : ConnectionId → Option (List ℕ) → Bool → Option ℕ → View → View → Out
issue cid token advertise path v w =
    cond (not (present token)) (refused 2 w)
    (cond (leb w.scid_capacity (length w.scids)) (refused 3 w)
    (cond (advertise && leb queue_slots (length w.scids_to_advertise)) (refused 6 v)
    (accepted (Issued w.next_scid_seq) (issued (record { cid = cid; seq = w.next_scid_seq; token = token; path = path }) advertise w))))

-- zero-length source: 2. Next sequence 2^62: 7. At or above the limit: without leave to retire, 3; else own Retire Prior To
-- becomes the lowest sequence not below it, plus 1; if there is none, 2
abbrev pub add_scid : ConnectionId → Option (List ℕ) → Bool → Option ℕ → Bool → View → Out
add_scid cid token advertise path retire_if_needed v =
    cond v.zero_length_scid (refused 2 v)
    (cond (leb max_sequence v.next_scid_seq) (refused 7 v)
    (cond (ltb (length v.scids) v.scid_limit) (issue cid token advertise path v v)
    (cond (not retire_if_needed) (refused 3 v)
    (maybe (lowest_from v.retire_prior_to v.scids) (refused 2 v) (λ s. issue cid token advertise path v (with_retire_prior_to (s + 1) v))))))

-- the item s is the only one
abbrev pub sole : ℕ → List Item → Bool
sole s l = leb (length l) 1 && any (has_seq s) l

-- the item x is out: if its ID is the packet's, 4; then Retire Prior To becomes the lowest remaining sequence not below it; if none, 2
abbrev pub taken : Item → ConnectionId → View → Out
taken x packet w =
    cond (same_id x.cid packet) (refused 4 w)
    (maybe (lowest_from w.retire_prior_to w.scids) (refused 2 w) (λ s. accepted (Freed x.path) (with_retire_prior_to s w)))

abbrev pub without : ℕ → List Item → List Item
without s l = keep (λ (x : Item). not (has_seq s x)) l

-- sequence >= next: 4. Only item: 2. Absent: success, no path. Otherwise the item is taken out first
abbrev pub retire_scid : ℕ → ConnectionId → View → Out
retire_scid s packet v =
    cond (leb v.next_scid_seq s) (refused 4 v)
    (cond (sole s v.scids) (refused 2 v)
    (maybe (first (has_seq s) v.scids) (accepted (Freed none) v) (λ x. taken x packet (with_scids (without s v.scids) v))))

-- ---- destination IDs

-- empties the table, adds sequence 0 and sets the zero-length mark
abbrev pub set_initial_dcid : ConnectionId → Option (List ℕ) → Option ℕ → View → Out
set_initial_dcid cid token path v =
    accepted Nothing (with_dcids (record { cid = cid; seq = 0; token = token; path = path } ∷ []) (with_zero_length_dcid (empty_id cid) v))

-- the retire queue is longer than 4 x limit
abbrev pub too_many : View → Bool
too_many v = ltb (retire_factor * v.dcid_limit) (length v.dcids_to_retire)

-- table full: 3. Add at the end, no path
abbrev pub append : Item → List UsedSeq → View → Out
append x pairs v = cond (leb (capacity_of v.dcid_limit) (length v.dcids)) (refused 3 v) (accepted (Retired pairs) (with_dcids (v.dcids ++ (x ∷ [])) v))

-- a sequence below the largest Retire Prior To and not queued: 6 if 128 stand in the queue, else queue it; 4 if the queue is then longer than 4 x limit, else success
abbrev pub queue_late : ℕ → View → Out
queue_late s v =
    cond (leb queue_slots (length v.dcids_to_retire)) (refused 6 v)
    (let w : View = with_dcids_to_retire (v.dcids_to_retire ++ (s ∷ [])) v in cond (too_many w) (refused 4 w) (accepted (Retired []) w))

-- (sequence, path) for those in use, in table order
abbrev pub pairs : List Item → List UsedSeq
pairs [] = []
pairs (x ∷ l) = maybe x.path (pairs l) (λ p. record { seq = x.seq; path = p } ∷ pairs l)

-- lower sequences move to the queue in table order, and the largest is raised
abbrev pub lowered : ℕ → View → View
lowered b v = with_dcids (keep (from b) v.dcids) (with_dcids_to_retire (v.dcids_to_retire ++ map seq_of (keep (below b) v.dcids)) (with_largest_peer_retire_prior_to b v))

-- Retire Prior To above the largest: 6 if the queue and the lower ones come to more than 128, else move the lower ones; 4 if the queue is then longer than 4 x limit
abbrev pub raise : Item → ℕ → View → Out
raise x b v =
    cond (ltb queue_slots (length (v.dcids_to_retire ++ map seq_of (keep (below b) v.dcids)))) (refused 6 v)
    (cond (too_many (lowered b v)) (refused 4 (lowered b v)) (append x (pairs (keep (below b) v.dcids)) (lowered b v)))

-- Retire Prior To > sequence: 4. Sequence below the largest Retire Prior To: if it is queued, success, nothing changed [10]; if not, queue it
abbrev pub add_new : Item → ℕ → View → Out
add_new x b v =
    cond (ltb x.seq b) (refused 4 v)
    (cond (ltb x.seq v.largest_peer_retire_prior_to) (cond (has x.seq v.dcids_to_retire) (accepted (Retired []) v) (queue_late x.seq v))
    (cond (ltb v.largest_peer_retire_prior_to b) (raise x b v) (append x [] v)))

-- zero-length: 4. The first item with equal ID or sequence: if ID, sequence or token differs, 4, else success, nothing changed
abbrev pub add_dcid : ConnectionId → ℕ → List ℕ → ℕ → View → Out
add_dcid cid seq token b v =
    let x : Item = record { cid = cid; seq = seq; token = some token; path = none } in
    cond v.zero_length_dcid (refused 4 v)
    (maybe (first (λ (y : Item). clashes y x) v.dcids) (add_new x b v) (λ y. cond (repeats y x) (accepted (Retired []) v) (refused 4 v)))

-- ---- marks

-- the item s is put on the path p; absent: 2
abbrev pub used : ℕ → ℕ → List Item → List Item
used s p l = map (λ (x : Item). cond (has_seq s x) (on_path p x) x) l

abbrev pub mark_scid_used : ℕ → ℕ → View → Out
mark_scid_used s p v = cond (any (has_seq s) v.scids) (accepted Nothing (with_scids (used s p v.scids) v)) (refused 2 v)

abbrev pub mark_dcid_used : ℕ → ℕ → View → Out
mark_dcid_used s p v = cond (any (has_seq s) v.dcids) (accepted Nothing (with_dcids (used s p v.dcids) v)) (refused 2 v)

-- on: 6 if 128 stand, else to the end; off: every equal one out
abbrev pub mark_scid_to_advertise : ℕ → Bool → View → Out
mark_scid_to_advertise s on v = cond (on && leb queue_slots (length v.scids_to_advertise)) (refused 6 v) (accepted Nothing (with_scids_to_advertise (marked s on v.scids_to_advertise) v))

abbrev pub mark_dcid_to_retire : ℕ → Bool → View → Out
mark_dcid_to_retire s on v = cond (on && leb queue_slots (length v.dcids_to_retire)) (refused 6 v) (accepted Nothing (with_dcids_to_retire (marked s on v.dcids_to_retire) v))
