-- add_scid and retire_scid: each way through the definition, on a well-formed state, as the code makes it.
use Rattle.std.specs.Bool.{then_some}
use Rattle.std.specs.Prelude.{Ok, ℕ, ◌+◌, ◌≤◌, ◌<◌, min, ◌≡◌, refl, List, [], ◌∷◌, ◌++◌, map, Bool, true, false, not, cond, ◌&&◌, leb, ltb, length, get_or}
use Rattle.std.proofs.Common.{sym, ap, ap₂, ◌∙◌, arith, eqb-true, le-leb, ltb-true}
use Rattle.std.proofs.Math.Bool.{and-false}
use Rattle.std.proofs.Math.Option.{Option, none, some}
use Rattle.std.proofs.lemmas.Bool.{lt-leb}
use Rattle.lists.specs.Defs.{maybe, given, any, first, first_with, keep, picked, less, least}
use Rattle.lists.specs.Bools.{and_both}
use Rattle.lists.specs.Search.{first_below}
use Rattle.lists.specs.Held.{length_without}
use Rattle.values.specs.Limits.{table_slots, queue_slots, max_sequence}
use Rattle.values.specs.Cid.{same_id}
use Rattle.values.specs.Token.{token_formed_of, token_view}
use Rattle.values.specs.declared.answers.Numbered.{Numbered}
use Rattle.values.specs.declared.cid.ConnectionId.{ConnectionId}
use Rattle.ids_rules.specs.Values.{Item, seq_of, has_seq, from}
use Rattle.ids_rules.specs.View.{View, Out, refused, accepted, Issued, Freed}
use Rattle.ids_rules.specs.With.{with_scids, with_retire_prior_to}
use Rattle.ids_rules.specs.Steps.{lowest_from, marked, issued, issue, add_scid, sole, taken, without, retire_scid}
use Rattle.tables.specs.Table.{zero_item, live, entries, table_of, queue_of}
use Rattle.tables.specs.Laws.{live_long, live_of}
use Rattle.tables.specs.declared.sequences.Queue.{Queue}
use Rattle.tables.specs.declared.items.Table.{Table}
use Rattle.ids_state.specs.Formed.{well_formed}
use Rattle.ids_state.proofs.Laws.{facts}
use Rattle.ids_state.specs.declared.state.Ids.{Ids}
use Rattle.ids.specs.Reading.{item_view, view, item_of, ids_of, path_formed_of, issued_at, freed_at, issued_of, freed_of}
use Rattle.ids.specs.ReadingLaws.{token_back, path_back, present_given, item_parts, snoc_back, source_well, scids_back, scids_long, advertise_long, view_is}
use Rattle.ids.specs.Carry.{first_at, first_none, any_at, any_none, keep_view, without_back, all_at}
use Rattle.ids.specs.Puts.{put_source, put_rpt, put_issued, put_source_rpt}
use Rattle.ids.specs.MarkLaws.{scids_apart}
use Rattle.ids.specs.ReadLaws.{place_in}
use Rattle.ids.specs.declared.answers.IssuedOut.{IssuedOut}
use Rattle.ids.specs.declared.answers.FreedOut.{FreedOut}
use Rattle.tables.specs.declared.items.Item as I
use Rattle.tables.specs.Table as T
use Rattle.ids_state.specs.Formed as F
use Rattle.lists.specs.Defs as D
use Rattle.values.specs.Answers.{numbered_at}
use Rattle.values.specs.Results.{numbered_of}

-- ---- the lowest sequence

lowest_of_lem : (b : ℕ) (v : List Item) → least (picked T.seq_of (T.at_least b) (map item_of v)) ≡ lowest_from b v
lowest_of_lem b v = ap (λ (l : List I.Item). least (map T.seq_of l)) (keep_view item_of (T.at_least b) (from b) (λ x. refl) v) ∙ ap least (seqs (keep (from b) v))
  where
    seqs : (l : List Item) → map T.seq_of (map item_of l) ≡ map seq_of l
    seqs [] = refl
    seqs (x ∷ l) = ap (λ (r : List ℕ). x.seq ∷ r) (seqs l)

pub lowest_back : (b : ℕ) (v : List Item) (l : List I.Item) → map item_of v ≡ l → lowest_from b v ≡ least (picked T.seq_of (T.at_least b) l)
lowest_back b v l e = sym (lowest_of_lem b v) ∙ ap (λ (m : List I.Item). least (picked T.seq_of (T.at_least b) m)) e

-- source sequences are below next
last_above : (b n : ℕ) (l : List ℕ) → D.after b (l ++ (n ∷ [])) ≡ true → b < n
last_above b n [] e = ltb-true b n (and_both (ltb b n) true e).0
last_above b n (y ∷ l) e =
    let w = and_both (ltb b y) _ e in
    omega (arith, ltb-true b y w.0, last_above y n l w.1)

less_below : (o : Option ℕ) (x n m : ℕ) → x < n → less o x ≡ some m → m < n
less_below none x n m h e = let q : x ≡ m = cc in omega arith
less_below (some k) x n m h e = let q : min k x ≡ m = cc in omega arith

below_next : (p : I.Item → Bool) (b n m : ℕ) (l : List I.Item) → D.after b (map T.seq_of l ++ (n ∷ [])) ≡ true → least (picked T.seq_of p l) ≡ some m → m < n
below_next p b n m [] e q = let z : ◌≡◌ {A = ℕ} 0 1 = cc in absurd (omega arith)
below_next p b n m (x ∷ l) e q =
    let w = and_both (ltb b x.seq) _ e in
    go (p x) q (λ r. below_next p x.seq n m l w.1 r) (last_above x.seq n (map T.seq_of l) w.1)
  where
    go : (t : Bool) → least (map T.seq_of (cond t (x ∷ keep p l) (keep p l))) ≡ some m → (least (picked T.seq_of p l) ≡ some m → m < n) → x.seq < n → m < n
    go true r k h = less_below (least (picked T.seq_of p l)) x.seq n m h r
    go false r k h = k r

pub lowest_below : (p : I.Item → Bool) (n m : ℕ) (l : List I.Item) → D.rising (map T.seq_of l ++ (n ∷ [])) ≡ true → least (picked T.seq_of p l) ≡ some m → m < n
lowest_below p n m [] e q = let z : ◌≡◌ {A = ℕ} 0 1 = cc in absurd (omega arith)
lowest_below p n m (x ∷ l) e q = go (p x) q
  where
    go : (t : Bool) → least (map T.seq_of (cond t (x ∷ keep p l) (keep p l))) ≡ some m → m < n
    go true r = less_below (least (picked T.seq_of p l)) x.seq n m (last_above x.seq n (map T.seq_of l) e) r
    go false r = below_next p x.seq n m l e r

-- ---- a new source ID, with own Retire Prior To as it was or raised

module _ (s : Ids) (w : well_formed s ≡ true) where
  pub keeps_issued : (n : ℕ) (o : Out) → o ≡ refused n (view s) → (r : IssuedOut) → r ≡ issued_at n 0 s → r ≡ issued_of o
  keeps_issued n o e r q = q ∙ ap (issued_at n 0) (sym (view_is s w)) ∙ sym (ap issued_of e)

  pub keeps_freed : (n : ℕ) (o : Out) → o ≡ refused n (view s) → (r : FreedOut) → r ≡ freed_at n none s → r ≡ freed_of o
  keeps_freed n o e r q = q ∙ ap (freed_at n none) (sym (view_is s w)) ∙ sym (ap freed_of e)

  module _ (rpt : ℕ) (x : I.Item) (advertise : Bool) where
    abbrev raised : View
    raised = with_retire_prior_to rpt (view s)

    abbrev entry : Item
    entry = record { cid = x.cid; seq = s.next_scid_seq; token = token_view x.token; path = given x.has_path x.path }

    abbrev pub issue_out : Out
    issue_out = issue x.cid (token_view x.token) advertise (given x.has_path x.path) (view s) raised

    abbrev goes : Bool → Bool → Bool → Out
    goes p q r = cond p (refused 2 raised) (cond q (refused 3 raised) (cond r (refused 6 (view s)) (accepted (Issued s.next_scid_seq) (issued entry advertise raised))))

    issue_is : (p q r : Bool) → not x.token.present ≡ p → leb s.scid_capacity s.scids.count ≡ q → (advertise && leb queue_slots s.scids_to_advertise.count) ≡ r → issue_out ≡ goes p q r
    issue_is p q r ep eq er =
        ap₂ (λ (a b : Bool). goes a b (advertise && leb queue_slots (length (view s).scids_to_advertise))) (ap not (present_given x.token.present x.token.bytes) ∙ ep) (ap (leb s.scid_capacity) (scids_long s w) ∙ eq)
        ∙ ap (goes p q) (ap (λ (n : ℕ). advertise && leb queue_slots n) (advertise_long s w) ∙ er)

    module _ (r : IssuedOut) where
      raised_at : (n : ℕ) → r ≡ issued_at n 0 (put_rpt rpt s) → r ≡ issued_of (refused n raised)
      raised_at n e = e ∙ ap (λ (u : Ids). issued_at n 0 (put_rpt rpt u)) (sym (view_is s w))

      pub issue_2 : not x.token.present ≡ true → r ≡ issued_at 2 0 (put_rpt rpt s) → r ≡ issued_of issue_out
      issue_2 p e = raised_at 2 e ∙ sym (ap issued_of (issue_is true _ _ p refl refl))

      module _ (p : not x.token.present ≡ false) where
        pub issue_3 : s.scid_capacity ≤ s.scids.count → r ≡ issued_at 3 0 (put_rpt rpt s) → r ≡ issued_of issue_out
        issue_3 q e = raised_at 3 e ∙ sym (ap issued_of (issue_is false true _ p (le-leb _ _ q) refl))

        module _ (q : s.scids.count < s.scid_capacity) where
          pub issue_6 : (advertise && leb queue_slots s.scids_to_advertise.count) ≡ true → r ≡ issued_at 6 0 s → r ≡ issued_of issue_out
          issue_6 t = keeps_issued 6 issue_out (issue_is false false true p (lt-leb _ _ q) t) r

          pub issue_0 : (advertise && leb queue_slots s.scids_to_advertise.count) ≡ false → x.seq ≡ s.next_scid_seq → token_formed_of x.token ≡ true → path_formed_of x.has_path x.path ≡ true
              → (t : Table) (a : Queue) → t ≡ table_of (live s.scids ++ (x ∷ [])) → a ≡ queue_of (marked s.next_scid_seq advertise (entries s.scids_to_advertise))
              → r ≡ issued_at 0 s.next_scid_seq (put_issued t a (s.next_scid_seq + 1) rpt s) → r ≡ issued_of issue_out
          issue_0 u sq ft fp t a et ea e =
              let back : item_of entry ≡ x = λ i. record { seq = sym sq i; path = path_back x.has_path x.path fp i; cid = x.cid; token = token_back x.token ft i; has_path = present_given x.has_path x.path i } in
              let table : t ≡ table_of (map item_of ((view s).scids ++ (entry ∷ []))) = et ∙ ap table_of (sym (snoc_back (view s).scids (live s.scids) entry x (scids_back s w) back)) in
              e ∙ ap₂ (λ (y : Table) (z : Queue). issued_at 0 s.next_scid_seq (put_issued y z (s.next_scid_seq + 1) rpt s)) table ea
              ∙ ap (λ (y : Ids). issued_at 0 s.next_scid_seq (put_issued (table_of (map item_of ((view s).scids ++ (entry ∷ [])))) (queue_of (marked s.next_scid_seq advertise (entries s.scids_to_advertise))) (s.next_scid_seq + 1) rpt y)) (sym (view_is s w))
              ∙ sym (ap issued_of (issue_is false false false p (lt-leb _ _ q) u))

  module _ (cid : ConnectionId) (token : Option (List ℕ)) (advertise : Bool) (path : Option ℕ) (retire_if_needed : Bool) where
    abbrev issue_with : View → Out
    issue_with v = issue cid token advertise path (view s) v

    abbrev pub adds : Out
    adds = add_scid cid token advertise path retire_if_needed (view s)

    abbrev add_at : Bool → Bool → Bool → Bool → Option ℕ → Out
    add_at p q r t o = cond p (refused 2 (view s)) (cond q (refused 7 (view s)) (cond r (issue_with (view s)) (cond t (refused 3 (view s)) (maybe o (refused 2 (view s)) (λ m. issue_with (with_retire_prior_to (m + 1) (view s)))))))

    -- by what its tests say
    pub add_is : (p q r t : Bool) (o : Option ℕ) → s.zero_length_scid ≡ p → leb max_sequence s.next_scid_seq ≡ q → ltb s.scids.count s.scid_limit ≡ r → not retire_if_needed ≡ t
        → least (picked T.seq_of (T.at_least s.retire_prior_to) (live s.scids)) ≡ o → adds ≡ add_at p q r t o
    add_is p q r t o ep eq er et eo =
        let low = lowest_from s.retire_prior_to (view s).scids in
        ap₂ (λ (a b : Bool). add_at a b (ltb (length (view s).scids) s.scid_limit) (not retire_if_needed) low) ep eq
        ∙ ap₂ (λ (a b : Bool). add_at p q a b low) (ap (λ (n : ℕ). ltb n s.scid_limit) (scids_long s w) ∙ er) et
        ∙ ap (add_at p q r t) (lowest_back s.retire_prior_to (view s).scids (live s.scids) (scids_back s w) ∙ eo)

-- ---- a source ID is retired

module _ (s : Ids) (w : well_formed s ≡ true) (seq i : ℕ) (place : first_with (T.has_seq seq) (live s.scids) ≡ some i) (packet : ConnectionId) where
  abbrev y : I.Item
  y = get_or (live s.scids) i zero_item

  abbrev out : View
  out = with_scids (without seq (view s).scids) (view s)

  abbrev pub takes : Out
  takes = taken (item_view y) packet out

  rest_back : map item_of (without seq (view s).scids) ≡ D.without i (live s.scids)
  rest_back = without_back (view s).scids (live s.scids) (scids_back s w) seq i place (scids_apart s w)

  pub place_below : i < s.scids.count
  place_below = place_in s.scids (source_well s w) (T.has_seq seq) i place

  pub rest_few : length (D.without i (live s.scids)) < table_slots
  rest_few = omega (arith, length_without i (live s.scids) (first_below (T.has_seq seq) (live s.scids) i place), live_long s.scids (source_well s w), (source_well s w).few)

  abbrev taken_at : Bool → Option ℕ → Out
  taken_at b o = cond b (refused 4 out) (maybe o (refused 2 out) (λ m. accepted (Freed (item_view y).path) (with_retire_prior_to m out)))

  module _ (t : Table) (et : t ≡ table_of (D.without i (live s.scids))) (r : FreedOut) where
    out_is : put_source t s ≡ ids_of out
    out_is = ap₂ put_source (et ∙ ap table_of (sym rest_back)) (sym (view_is s w))

    take_is : (b : Bool) (o : Option ℕ) → same_id y.cid packet ≡ b → least (picked T.seq_of (T.at_least s.retire_prior_to) (live t)) ≡ o → takes ≡ taken_at b o
    take_is b o eb eo =
        ap₂ taken_at eb (lowest_back s.retire_prior_to (without seq (view s).scids) (D.without i (live s.scids)) rest_back
        ∙ ap (λ (l : List I.Item). least (picked T.seq_of (T.at_least s.retire_prior_to) l)) (sym (live_of (D.without i (live s.scids)) t et)) ∙ eo)

    pub take_4 : same_id y.cid packet ≡ true → r ≡ freed_at 4 none (put_source t s) → r ≡ freed_of takes
    take_4 b e = e ∙ ap (freed_at 4 none) out_is ∙ sym (ap freed_of (take_is true _ b refl))

    module _ (b : same_id y.cid packet ≡ false) where
      pub take_2 : least (picked T.seq_of (T.at_least s.retire_prior_to) (live t)) ≡ none → r ≡ freed_at 2 none (put_source t s) → r ≡ freed_of takes
      take_2 o e = e ∙ ap (freed_at 2 none) out_is ∙ sym (ap freed_of (take_is false none b o))

      pub take_0 : (m : ℕ) → least (picked T.seq_of (T.at_least s.retire_prior_to) (live t)) ≡ some m → (x : I.Item) → y ≡ x
          → ◌≡◌ {A = FreedOut} r (record { ids = put_source_rpt t m s; answer = record { refusal = 0; present = x.has_path; number = x.path } }) → r ≡ freed_of takes
      take_0 m o x ex e =
          let q = (item_parts y (all_at F.item_formed_of zero_item (live s.scids) i (facts s w).source_items (first_below (T.has_seq seq) (live s.scids) i place))).2 in
          let path : ◌≡◌ {A = Numbered} (record { refusal = 0; present = x.has_path; number = x.path }) (numbered_at 0 (item_view y).path) =
          ap {B = Numbered} (λ (z : I.Item). record { refusal = 0; present = z.has_path; number = z.path }) (sym ex)
          ∙ (λ j. record { refusal = 0; present = sym (present_given y.has_path y.path) j; number = sym (path_back y.has_path y.path q) j }) in
          e ∙ ap₂ {C = FreedOut} (λ (u : Ids) (n : Numbered). record { ids = put_rpt m u; answer = n }) out_is path ∙ sym (ap freed_of (take_is false (some m) b o))

module _ (s : Ids) (w : well_formed s ≡ true) (seq : ℕ) (packet : ConnectionId) where
  abbrev pub retires : Out
  retires = retire_scid seq packet (view s)

  abbrev retire_at : Bool → Bool → Option Item → Out
  retire_at p q o = cond p (refused 4 (view s)) (cond q (refused 2 (view s)) (maybe o (accepted (Freed none) (view s)) (λ x. taken x packet (with_scids (without seq (view s).scids) (view s)))))

  pub scid_retire_4 : s.next_scid_seq ≤ seq → retires ≡ refused 4 (view s)
  scid_retire_4 h = ap (λ (b : Bool). retire_at b (sole seq (view s).scids) (first (has_seq seq) (view s).scids)) (le-leb _ _ h)

  module _ (h : seq < s.next_scid_seq) where
    on : (q : Bool) (o : Option Item) → sole seq (view s).scids ≡ q → first (has_seq seq) (view s).scids ≡ o → retires ≡ retire_at false q o
    on q o eq eo = ap (λ (b : Bool). retire_at b (sole seq (view s).scids) (first (has_seq seq) (view s).scids)) (lt-leb _ _ h) ∙ ap₂ (retire_at false) eq eo

    sole_is : (b : Bool) → any (has_seq seq) (view s).scids ≡ b → sole seq (view s).scids ≡ (leb s.scids.count 1 && b)
    sole_is b e = ap₂ (λ (n : ℕ) (t : Bool). leb n 1 && t) (scids_long s w) e

    pub scid_retire_none : first_with (T.has_seq seq) (live s.scids) ≡ none → retires ≡ accepted (Freed none) (view s)
    scid_retire_none e =
        on false none (sole_is false (any_none item_view (has_seq seq) (T.has_seq seq) (λ x. refl) (live s.scids) e) ∙ and-false (leb s.scids.count 1))
        (first_none item_view (has_seq seq) (T.has_seq seq) (λ x. refl) (live s.scids) e)

    module _ (i : ℕ) (place : first_with (T.has_seq seq) (live s.scids) ≡ some i) where
      there : any (has_seq seq) (view s).scids ≡ true
      there = any_at item_view (has_seq seq) (T.has_seq seq) (λ x. refl) (live s.scids) i place

      pub scid_retire_2 : s.scids.count ≤ 1 → retires ≡ refused 2 (view s)
      scid_retire_2 k = on true _ (sole_is true there ∙ ap (λ (b : Bool). b && true) (le-leb _ _ k)) refl

      pub scid_retire_0 : 1 < s.scids.count → retires ≡ taken (item_view (get_or (live s.scids) i zero_item)) packet (with_scids (without seq (view s).scids) (view s))
      scid_retire_0 k =
          on false (some (item_view (get_or (live s.scids) i zero_item))) (sole_is true there ∙ ap (λ (b : Bool). b && true) (lt-leb _ _ k))
          (first_at item_view (has_seq seq) (T.has_seq seq) (λ x. refl) zero_item (live s.scids) i place)

-- the path of an item of its form, as an answer
pub numbered_given : (has : Bool) (path : ℕ) → path_formed_of has path ≡ true → numbered_of (Ok (then_some has path)) ≡ record { refusal = 0; present = has; number = path }
numbered_given true path e = refl
numbered_given false path e = ap {B = Numbered} (λ (n : ℕ). record { refusal = 0; present = false; number = n }) (sym (eqb-true path 0 e))
