-- The marks: each way through the definition, on a well-formed state, as the code makes it.
use Rattle.std.specs.Prelude.{ℕ, ◌≡◌, refl, List, map, Bool, true, false, cond, ◌&&◌, leb, length}
use Rattle.std.proofs.Common.{sym, ap, ap₂, ◌∙◌}
use Rattle.std.proofs.Math.Option.{Option, none, some}
use Rattle.lists.specs.Defs.{any, pairwise, first_with}
use Rattle.values.specs.Limits.{queue_slots}
use Rattle.ids_rules.specs.Values.{Item, has_seq}
use Rattle.ids_rules.specs.View.{View, Out, refused, accepted, Nothing}
use Rattle.ids_rules.specs.With.{with_scids, with_dcids, with_scids_to_advertise, with_dcids_to_retire}
use Rattle.ids_rules.specs.Steps.{marked, used, mark_scid_used, mark_dcid_used, mark_scid_to_advertise, mark_dcid_to_retire}
use Rattle.tables.specs.Table.{live, entries, table_of, queue_of}
use Rattle.tables.specs.declared.sequences.Queue.{Queue}
use Rattle.tables.specs.declared.items.Table.{Table}
use Rattle.ids_state.specs.Formed.{well_formed}
use Rattle.ids_state.proofs.Laws.{facts}
use Rattle.ids_state.specs.declared.state.Ids.{Ids}
use Rattle.ids.specs.Reading.{item_view, item_of, ids_of, view, done_at, done_of}
use Rattle.ids.specs.ReadingLaws.{scids_back, dcids_back, advertise_long, retire_long, view_is}
use Rattle.ids.specs.Carry.{any_at, any_none, seqs_apart, apart_seqs, rising_seqs, used_back}
use Rattle.ids.specs.Puts.{put_source, put_destination, put_advertise, put_retire}
use Rattle.ids.specs.Acts.{done_in, used_at, marked_at}
use Rattle.ids.specs.declared.answers.DoneOut.{DoneOut}
use Rattle.ids.specs.declared.answers.TableParts.{TableParts}
use Rattle.ids.specs.declared.answers.QueueParts.{QueueParts}
use Rattle.tables.specs.Table as T
use Rattle.tables.specs.declared.items.Item as I

module _ (s : Ids) (w : well_formed s ≡ true) where
  -- nothing changed
  pub stays : (n : ℕ) (o : Out) → o ≡ refused n (view s) → done_at n s ≡ done_of o
  stays n o e = ap (done_at n) (sym (view_is s w)) ∙ sym (ap done_of e)

  -- ---- a queue q of the state: put stores one in the state, new its list in the view

  module _ (q : Queue) (put : Queue → Ids → Ids) (new : List ℕ → View → View) (same : put q s ≡ s) (back : (l : List ℕ) → put (queue_of l) (ids_of (view s)) ≡ ids_of (new l (view s)))
      (long : length (entries q) ≡ q.count) (seq : ℕ) (on : Bool) where
    abbrev mark_at : Bool → Out
    mark_at b = cond b (refused 6 (view s)) (accepted Nothing (new (marked seq on (entries q)) (view s)))

    mark_is : (r : QueueParts) → r ≡ marked_at seq on q (on && leb queue_slots q.count) → done_in (put r.queue s) r.answer ≡ done_of (mark_at (on && leb queue_slots (length (entries q))))
    mark_is r e = ap leaves e ∙ go (on && leb queue_slots q.count) (ap (λ (n : ℕ). on && leb queue_slots n) long)
      where
        leaves : QueueParts → DoneOut
        leaves x = done_in (put x.queue s) x.answer

        go : (b : Bool) → (on && leb queue_slots (length (entries q))) ≡ b → leaves (marked_at seq on q b) ≡ done_of (mark_at (on && leb queue_slots (length (entries q))))
        go true t = ap (done_at 6) same ∙ stays 6 (mark_at (on && leb queue_slots (length (entries q)))) (ap mark_at t)
        go false t =
            ap (done_at 0) (ap (put (queue_of (marked seq on (entries q)))) (sym (view_is s w)) ∙ back (marked seq on (entries q)))
            ∙ sym (ap (λ (b : Bool). done_of (mark_at b)) t)

  module _ (seq : ℕ) (on : Bool) where
    pub advertise_is : (r : QueueParts) → r ≡ marked_at seq on s.scids_to_advertise (on && leb queue_slots s.scids_to_advertise.count) → done_in (put_advertise r.queue s) r.answer ≡ done_of (mark_scid_to_advertise seq on (view s))
    advertise_is = mark_is s.scids_to_advertise put_advertise with_scids_to_advertise refl (λ l. refl) (advertise_long s w) seq on

    pub retire_is : (r : QueueParts) → r ≡ marked_at seq on s.dcids_to_retire (on && leb queue_slots s.dcids_to_retire.count) → done_in (put_retire r.queue s) r.answer ≡ done_of (mark_dcid_to_retire seq on (view s))
    retire_is = mark_is s.dcids_to_retire put_retire with_dcids_to_retire refl (λ l. refl) (retire_long s w) seq on

  -- ---- no two items of a table have the same sequence

  pub scids_apart : pairwise seqs_apart (live s.scids) ≡ true
  scids_apart = rising_seqs s.next_scid_seq (live s.scids) (facts s w).rises

  pub dcids_apart : pairwise seqs_apart (live s.dcids) ≡ true
  dcids_apart = apart_seqs (live s.dcids) (facts s w).distinct

  -- ---- a table t of the state, likewise

  module _ (t : Table) (put : Table → Ids → Ids) (new : List Item → View → View) (same : put t s ≡ s) (back : (l : List Item) → put (table_of (map item_of l)) (ids_of (view s)) ≡ ids_of (new l (view s)))
      (items : map item_of (map item_view (live t)) ≡ live t) (distinct : pairwise seqs_apart (live t) ≡ true) (seq path : ℕ) where
    abbrev use_at : Bool → Out
    use_at b = cond b (accepted Nothing (new (used seq path (map item_view (live t))) (view s))) (refused 2 (view s))

    use_is : (r : TableParts) → r ≡ used_at path t (first_with (T.has_seq seq) (live t)) → done_in (put r.table s) r.answer ≡ done_of (use_at (any (has_seq seq) (map item_view (live t))))
    use_is r e = ap leaves e ∙ go (first_with (T.has_seq seq) (live t)) refl
      where
        leaves : TableParts → DoneOut
        leaves x = done_in (put x.table s) x.answer

        go : (o : Option ℕ) → first_with (T.has_seq seq) (live t) ≡ o → leaves (used_at path t o) ≡ done_of (use_at (any (has_seq seq) (map item_view (live t))))
        go none p = ap (done_at 2) same ∙ stays 2 (use_at (any (has_seq seq) (map item_view (live t)))) (ap use_at (any_none item_view (has_seq seq) (T.has_seq seq) (λ x. refl) (live t) p))
        go (some i) p =
            ap₂ (λ (l : List I.Item) (u : Ids). done_at 0 (put (table_of l) u)) (sym (used_back (map item_view (live t)) (live t) items seq i p distinct path)) (sym (view_is s w))
            ∙ ap (done_at 0) (back (used seq path (map item_view (live t))))
            ∙ sym (ap (λ (b : Bool). done_of (use_at b)) (any_at item_view (has_seq seq) (T.has_seq seq) (λ x. refl) (live t) i p))

  module _ (seq path : ℕ) where
    pub scid_used_is : (r : TableParts) → r ≡ used_at path s.scids (first_with (T.has_seq seq) (live s.scids)) → done_in (put_source r.table s) r.answer ≡ done_of (mark_scid_used seq path (view s))
    scid_used_is = use_is s.scids put_source with_scids refl (λ l. refl) (scids_back s w) scids_apart seq path

    pub dcid_used_is : (r : TableParts) → r ≡ used_at path s.dcids (first_with (T.has_seq seq) (live s.dcids)) → done_in (put_destination r.table s) r.answer ≡ done_of (mark_dcid_used seq path (view s))
    dcid_used_is = use_is s.dcids put_destination with_dcids refl (λ l. refl) (dcids_back s w) dcids_apart seq path
