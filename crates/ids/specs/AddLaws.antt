-- add_dcid: each way through the definition, on a well-formed state, as the code makes it.
use Rattle.std.specs.Prelude.{ℕ, suc, ◌+◌, ◌*◌, ◌≤◌, ◌<◌, ◌≡◌, refl, List, [], ◌∷◌, ◌++◌, map, Bool, true, false, not, cond, ◌&&◌, eqb, length}
use Rattle.std.proofs.Common.{sym, ap, ap₂, ◌∙◌, arith, length-append}
use Rattle.std.specs.Bool.{beq}
use Rattle.std.proofs.Math.Option.{some}
use Rattle.std.proofs.lemmas.List.{length-map}
use Rattle.lists.specs.Defs.{maybe, given, same, first, keep, picked}
use Rattle.values.specs.Limits.{queue_slots, retire_factor, capacity_of}
use Rattle.values.specs.Cid.{id_formed, same_id}
use Rattle.values.specs.Token.{token_view}
use Rattle.values.specs.declared.token.Token.{Token}
use Rattle.values.specs.declared.cid.ConnectionId.{ConnectionId}
use Rattle.values.specs.declared.used.UsedSeq.{UsedSeq}
use Rattle.ids_rules.specs.Values.{Item, from, below, clashes, shared_token, repeats}
use Rattle.ids_rules.specs.View.{Out, refused, accepted, Retired}
use Rattle.ids_rules.specs.With.{with_dcids_to_retire}
use Rattle.ids_rules.specs.Steps.{append, queue_late, pairs, lowered, raise, add_new, add_dcid}
use Rattle.tables.specs.Table.{live, entries, table_of, queue_of}
use Rattle.tables.specs.Laws.{entries_long, live_long, live_of}
use Rattle.tables.specs.declared.sequences.Queue.{Queue}
use Rattle.tables.specs.declared.items.Table.{Table}
use Rattle.ids_state.specs.Formed.{well_formed}
use Rattle.ids_state.specs.declared.state.Ids.{Ids}
use Rattle.ids.specs.Reading.{item_view, view, item_of, ids_of, retired_at, retired_of}
use Rattle.ids.specs.ReadingLaws.{item_back, snoc_back, destination_well, retire_well, dcids_back, dcids_long, retire_long, view_is}
use Rattle.ids.specs.Carry.{keep_view, seqs_kept}
use Rattle.ids.specs.Puts.{put_destination, put_retire, put_lowered}
use Rattle.ids.specs.AddWays.{late_full, late_many, late_ok, append_full, append_ok, queued, raise_full, raise_many, raise_on}
use Rattle.ids.specs.declared.answers.RetiredOut.{RetiredOut}
use Rattle.tables.specs.declared.items.Item as I
use Rattle.tables.specs.Table as T
use Rattle.ids_state.specs.Formed as F

module _ (s : Ids) (w : well_formed s ≡ true) where
  pub retires_is : (l : List ℕ) (q : Queue) → q ≡ queue_of l → put_retire q s ≡ ids_of (with_dcids_to_retire l (view s))
  retires_is l q e = ap₂ put_retire e (sym (view_is s w))

  -- a call that changed nothing
  pub keeps : (n : ℕ) (o : Out) → o ≡ refused n (view s) → (r : RetiredOut) → r ≡ retired_at n [] s → r ≡ retired_of o
  keeps n o e r q = q ∙ ap (retired_at n []) (sym (view_is s w)) ∙ sym (ap retired_of e)

  -- the same, accepted
  pub stays : (o : Out) → o ≡ accepted (Retired []) (view s) → (r : RetiredOut) → r ≡ retired_at 0 [] s → r ≡ retired_of o
  stays o e r q = q ∙ ap (retired_at 0 []) (sym (view_is s w)) ∙ sym (ap retired_of e)

  module _ (seq : ℕ) where
    pub late_6 : queue_slots ≤ s.dcids_to_retire.count → (r : RetiredOut) → r ≡ retired_at 6 [] s → r ≡ retired_of (queue_late seq (view s))
    late_6 h = keeps 6 (queue_late seq (view s)) (late_full seq (view s) (omega (arith, retire_long s w)))

    module _ (h : s.dcids_to_retire.count < queue_slots) (q : Queue) (e : q ≡ queue_of (entries s.dcids_to_retire ++ (seq ∷ []))) (r : RetiredOut) where
      pub late_4 : retire_factor * s.dcid_limit < q.count → r ≡ retired_at 4 [] (put_retire q s) → r ≡ retired_of (queue_late seq (view s))
      late_4 k y = y ∙ ap (retired_at 4 []) (retires_is (entries s.dcids_to_retire ++ (seq ∷ [])) q e) ∙ sym (ap retired_of (late_many seq (view s) (omega (arith, retire_long s w)) (omega (arith, k, ap (λ (z : Queue). z.count) e))))

      pub late_0 : q.count ≤ retire_factor * s.dcid_limit → r ≡ retired_at 0 [] (put_retire q s) → r ≡ retired_of (queue_late seq (view s))
      late_0 k y = y ∙ ap (retired_at 0 []) (retires_is (entries s.dcids_to_retire ++ (seq ∷ [])) q e) ∙ sym (ap retired_of (late_ok seq (view s) (omega (arith, retire_long s w)) (omega (arith, k, ap (λ (z : Queue). z.count) e))))

  module _ (x : I.Item) where
    pub append_3 : capacity_of s.dcid_limit ≤ s.dcids.count → (r : RetiredOut) → r ≡ retired_at 3 [] s → r ≡ retired_of (append (item_view x) [] (view s))
    append_3 h = keeps 3 (append (item_view x) [] (view s)) (append_full (item_view x) [] (view s) (omega (arith, dcids_long s w)))

    pub append_0 : F.item_formed_of x ≡ true → s.dcids.count < capacity_of s.dcid_limit → (t : Table) → t ≡ table_of (live s.dcids ++ (x ∷ []))
        → (r : RetiredOut) → r ≡ retired_at 0 [] (put_destination t s) → r ≡ retired_of (append (item_view x) [] (view s))
    append_0 f h t e r y =
        y ∙ ap₂ (λ (u : Table) (v : Ids). retired_at 0 [] (put_destination u v)) (e ∙ ap table_of (sym (snoc_back (view s).dcids (live s.dcids) (item_view x) x (dcids_back s w) (item_back x f)))) (sym (view_is s w))
        ∙ sym (ap retired_of (append_ok (item_view x) [] (view s) (omega (arith, dcids_long s w))))

-- those that pass and those that do not are all
pub keep_split : {A : Type 0} (p : A → Bool) (l : List A) → length (keep p l) + length (keep (λ (x : A). not (p x)) l) ≡ length l
keep_split p [] = refl
keep_split {A} p (x ∷ l) = go (p x) (keep_split p l)
  where
    go : (t : Bool) → length (keep p l) + length (keep (λ (y : A). not (p y)) l) ≡ length l
        → length (cond t (x ∷ keep p l) (keep p l)) + length (cond (not t) (x ∷ keep (λ (y : A). not (p y)) l) (keep (λ (y : A). not (p y)) l)) ≡ suc (length l)
    go true e = omega (arith, e)
    go false e = omega (arith, e)

pub low_pairs : (b : ℕ) (l : List I.Item) → pairs (keep (below b) (map item_view l)) ≡ picked T.pair_of (T.low_on_path b) l
low_pairs b [] = refl
low_pairs b (x ∷ l) = go (T.below b x) x.has_path (low_pairs b l)
  where
    go : (t h : Bool) → pairs (keep (below b) (map item_view l)) ≡ picked T.pair_of (T.low_on_path b) l
        → pairs (cond t (record { cid = x.cid; seq = x.seq; token = token_view x.token; path = given h x.path } ∷ keep (below b) (map item_view l)) (keep (below b) (map item_view l)))
        ≡ map T.pair_of (cond (t && h) (x ∷ keep (T.low_on_path b) l) (keep (T.low_on_path b) l))
    go true true e = ap (λ (r : List UsedSeq). T.pair_of x ∷ r) e
    go true false e = e
    go false h e = e

module _ (s : Ids) (w : well_formed s ≡ true) (x : I.Item) (f : F.item_formed_of x ≡ true) (b : ℕ) where
  abbrev l : List I.Item
  l = live s.dcids

  kept_back : map item_of (keep (from b) (view s).dcids) ≡ keep (T.at_least b) l
  kept_back = sym (keep_view item_of (T.at_least b) (from b) (λ y. refl) (view s).dcids) ∙ ap (keep (T.at_least b)) (dcids_back s w)

  kept_long : length (keep (from b) (view s).dcids) ≡ length (keep (T.at_least b) l)
  kept_long = sym (length-map (keep (from b) (view s).dcids) item_of) ∙ ap length kept_back

  queued_is : queued (item_view x) b (view s) ≡ entries s.dcids_to_retire ++ picked T.seq_of (T.below b) l
  queued_is = ap (λ (r : List ℕ). entries s.dcids_to_retire ++ r) (seqs_kept (below b) (T.below b) (λ y. refl) l)

  pub split : length (keep (T.at_least b) l) + length (keep (T.below b) l) ≡ s.dcids.count
  split = keep_split (T.at_least b) l ∙ live_long s.dcids (destination_well s w)

  queued_long : length (queued (item_view x) b (view s)) ≡ s.dcids_to_retire.count + length (keep (T.below b) l)
  queued_long =
      ap length queued_is ∙ length-append (entries s.dcids_to_retire) (picked T.seq_of (T.below b) l)
      ∙ ap₂ ◌+◌ (entries_long s.dcids_to_retire (retire_well s w)) (length-map (keep (T.below b) l) T.seq_of)

  pub raise_6 : queue_slots < s.dcids_to_retire.count + length (keep (T.below b) l) → (r : RetiredOut) → r ≡ retired_at 6 [] s → r ≡ retired_of (raise (item_view x) b (view s))
  raise_6 h = keeps s w 6 (raise (item_view x) b (view s)) (raise_full (item_view x) b (view s) (omega (arith, queued_long)))

  module _ (h : s.dcids_to_retire.count + length (keep (T.below b) l) ≤ queue_slots) (k : Table) (ek : k ≡ table_of (keep (T.at_least b) l)) (q : Queue) (eq : q ≡ queue_of (entries s.dcids_to_retire ++ picked T.seq_of (T.below b) l)) (r : RetiredOut) where
    lowered_is : put_lowered k q b s ≡ ids_of (lowered b (view s))
    lowered_is =
        ap₂ (λ (t : Table) (u : Queue). put_lowered t u b s) (ek ∙ ap table_of (sym kept_back)) (eq ∙ ap queue_of (sym queued_is))
        ∙ ap (put_lowered (table_of (map item_of (keep (from b) (view s).dcids))) (queue_of (queued (item_view x) b (view s))) b) (sym (view_is s w))

    count_q : q.count ≡ length (queued (item_view x) b (view s))
    count_q = ap (λ (z : Queue). z.count) eq ∙ ap length (sym queued_is)

    count_k : k.count ≡ length (keep (from b) (view s).dcids)
    count_k = ap (λ (z : Table). z.count) ek ∙ sym kept_long

    pub raise_4 : retire_factor * s.dcid_limit < q.count → r ≡ retired_at 4 [] (put_lowered k q b s) → r ≡ retired_of (raise (item_view x) b (view s))
    raise_4 n y = y ∙ ap (retired_at 4 []) lowered_is ∙ sym (ap retired_of (raise_many (item_view x) b (view s) (omega (arith, queued_long)) (omega (arith, n, count_q))))

    module _ (n : q.count ≤ retire_factor * s.dcid_limit) where
      on : raise (item_view x) b (view s) ≡ append (item_view x) (pairs (keep (below b) (view s).dcids)) (lowered b (view s))
      on = raise_on (item_view x) b (view s) (omega (arith, queued_long)) (omega (arith, n, count_q))

      pub raise_3 : capacity_of s.dcid_limit ≤ k.count → r ≡ retired_at 3 [] (put_lowered k q b s) → r ≡ retired_of (raise (item_view x) b (view s))
      raise_3 c y = y ∙ ap (retired_at 3 []) lowered_is ∙ sym (ap retired_of (on ∙ append_full (item_view x) (pairs (keep (below b) (view s).dcids)) (lowered b (view s)) (omega (arith, c, count_k))))

      pub raise_0 : k.count < capacity_of s.dcid_limit → (t : Table) → t ≡ table_of (live k ++ (x ∷ [])) → r ≡ retired_at 0 (picked T.pair_of (T.low_on_path b) l) (put_lowered t q b s) → r ≡ retired_of (raise (item_view x) b (view s))
      raise_0 c t et y =
          let a : List Item = keep (from b) (view s).dcids in
          let e : t ≡ table_of (map item_of (a ++ (item_view x ∷ []))) = et ∙ ap (λ (m : List I.Item). table_of (m ++ (x ∷ []))) (live_of (keep (T.at_least b) l) k ek) ∙ ap table_of (sym (snoc_back a (keep (T.at_least b) l) (item_view x) x kept_back (item_back x f))) in
          y ∙ ap₂ (λ (p : List UsedSeq) (z : Table). retired_at 0 p (put_lowered z q b s)) (sym (low_pairs b l)) e
          ∙ ap (λ (u : Ids). retired_at 0 (pairs (keep (below b) (view s).dcids)) (put_destination (table_of (map item_of (a ++ (item_view x ∷ [])))) u)) lowered_is
          ∙ sym (ap retired_of (on ∙ append_ok (item_view x) (pairs (keep (below b) (view s).dcids)) (lowered b (view s)) (omega (arith, c, count_k))))

-- what the first judgement says

shared_tokens : (a b : Token) → shared_token (token_view a) (token_view b) ≡ T.shared_token a b
shared_tokens a b = go a.present b.present
  where
    go : (p q : Bool) → shared_token (given p a.bytes) (given q b.bytes) ≡ (p && (beq p q && same a.bytes b.bytes))
    go true true = refl
    go true false = refl
    go false q = refl

module _ {A : Type 0} (x : I.Item) (n a c : A) where
  abbrev clash_at : List Item → A
  clash_at l = maybe (first (λ (y : Item). clashes y (item_view x)) l) n (λ y. cond (repeats y (item_view x)) a c)

  module _ (y : I.Item) (l : List I.Item) where
    repeat_is : repeats (item_view y) (item_view x) ≡ T.repeating x y
    repeat_is = ap (λ (t : Bool). same_id y.cid x.cid && eqb y.seq x.seq && t) (shared_tokens y.token x.token)

    pub judged_view : (t u : Bool) → T.clashing x y ≡ t → T.repeating x y ≡ u → clash_at (map item_view (y ∷ l)) ≡ cond t (cond u a c) (clash_at (map item_view l))
    judged_view t u et eu = ap (λ (p : Bool). maybe (cond p (some (item_view y)) (first (λ (z : Item). clashes z (item_view x)) (map item_view l))) n (λ z. cond (repeats z (item_view x)) a c)) et ∙ go t
      where
        go : (t : Bool) → maybe (cond t (some (item_view y)) (first (λ (z : Item). clashes z (item_view x)) (map item_view l))) n (λ z. cond (repeats z (item_view x)) a c) ≡ cond t (cond u a c) (clash_at (map item_view l))
        go true = ap (λ (p : Bool). cond p a c) (repeat_is ∙ eu)
        go false = refl

  pub judged_0 : (l : List I.Item) → T.first_judged x l ≡ 0 → clash_at (map item_view l) ≡ n
  judged_0 [] e = refl
  judged_0 (y ∷ l) e = go (T.clashing x y) (T.repeating x y) refl refl e (λ q. judged_0 l q)
    where
      go : (t u : Bool) → T.clashing x y ≡ t → T.repeating x y ≡ u → cond {A = ℕ} t (cond u 1 2) (T.first_judged x l) ≡ 0 → (T.first_judged x l ≡ 0 → clash_at (map item_view l) ≡ n) → clash_at (map item_view (y ∷ l)) ≡ n
      go true true et eu q k = absurd (omega (arith, q))
      go true false et eu q k = absurd (omega (arith, q))
      go false u et eu q k = judged_view y l false u et eu ∙ k q

  pub judged_1 : (l : List I.Item) → T.first_judged x l ≡ 1 → clash_at (map item_view l) ≡ a
  judged_1 [] e = absurd (omega (arith, e))
  judged_1 (y ∷ l) e = go (T.clashing x y) (T.repeating x y) refl refl e (λ q. judged_1 l q)
    where
      go : (t u : Bool) → T.clashing x y ≡ t → T.repeating x y ≡ u → cond {A = ℕ} t (cond u 1 2) (T.first_judged x l) ≡ 1 → (T.first_judged x l ≡ 1 → clash_at (map item_view l) ≡ a) → clash_at (map item_view (y ∷ l)) ≡ a
      go true true et eu q k = judged_view y l true true et eu
      go true false et eu q k = absurd (omega (arith, q))
      go false u et eu q k = judged_view y l false u et eu ∙ k q

  pub judged_2 : (l : List I.Item) → (T.first_judged x l ≡ 0 → ⊥) → (T.first_judged x l ≡ 1 → ⊥) → clash_at (map item_view l) ≡ c
  judged_2 [] p q = absurd (p refl)
  judged_2 (y ∷ l) p q = go (T.clashing x y) (T.repeating x y) refl refl p q (λ r s. judged_2 l r s)
    where
      go : (t u : Bool) → T.clashing x y ≡ t → T.repeating x y ≡ u → (cond {A = ℕ} t (cond u 1 2) (T.first_judged x l) ≡ 0 → ⊥) → (cond {A = ℕ} t (cond u 1 2) (T.first_judged x l) ≡ 1 → ⊥) → ((T.first_judged x l ≡ 0 → ⊥) → (T.first_judged x l ≡ 1 → ⊥) → clash_at (map item_view l) ≡ c) → clash_at (map item_view (y ∷ l)) ≡ c
      go true true et eu p q k = absurd (q refl)
      go true false et eu p q k = judged_view y l true false et eu
      go false u et eu p q k = judged_view y l false u et eu ∙ k p q

-- ---- the whole

module _ (s : Ids) (w : well_formed s ≡ true) (cid : ConnectionId) (seq : ℕ) (token : List ℕ) (b : ℕ) where
  abbrev pub item : I.Item
  item = record { seq = seq; path = 0; cid = cid; token = record { bytes = token; present = true }; has_path = false }

  pub item_formed_lem : id_formed cid ≡ true → F.item_formed_of item ≡ true
  item_formed_lem e = ap (λ (t : Bool). t && true && true && true) e

  abbrev past : Out
  past = clash_at item (add_new (item_view item) b (view s)) (accepted (Retired []) (view s)) (refused 4 (view s)) (view s).dcids

  module _ (r : RetiredOut) where
    pub add_zero : s.zero_length_dcid ≡ true → r ≡ retired_at 4 [] s → r ≡ retired_of (add_dcid cid seq token b (view s))
    add_zero z = keeps s w 4 (add_dcid cid seq token b (view s)) (ap (λ (t : Bool). cond t (refused 4 (view s)) past) z) r

    module _ (z : s.zero_length_dcid ≡ false) (j : ℕ) (e : j ≡ T.first_judged item (live s.dcids)) where
      on_past : add_dcid cid seq token b (view s) ≡ past
      on_past = ap (λ (t : Bool). cond t (refused 4 (view s)) past) z

      pub add_repeat : j ≡ 1 → r ≡ retired_at 0 [] s → r ≡ retired_of (add_dcid cid seq token b (view s))
      add_repeat h = stays s w (add_dcid cid seq token b (view s)) (on_past ∙ judged_1 item _ _ _ (live s.dcids) (sym e ∙ h)) r

      pub add_clash : (j ≡ 0 → ⊥) → (j ≡ 1 → ⊥) → r ≡ retired_at 4 [] s → r ≡ retired_of (add_dcid cid seq token b (view s))
      add_clash h k = keeps s w 4 (add_dcid cid seq token b (view s)) (on_past ∙ judged_2 item _ _ _ (live s.dcids) (λ y. h (e ∙ y)) (λ y. k (e ∙ y))) r

      pub add_new_lem : j ≡ 0 → r ≡ retired_of (add_new (item_view item) b (view s)) → r ≡ retired_of (add_dcid cid seq token b (view s))
      add_new_lem h q = q ∙ sym (ap retired_of (on_past ∙ judged_0 item _ _ _ (live s.dcids) (sym e ∙ h)))
