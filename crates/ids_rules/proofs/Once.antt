-- Source sequences are issued once: what each call does to them, and so what a run does.
use Rattle.std.specs.Prelude.{ℕ, zero, suc, ◌+◌, ◌<◌, ◌≡◌, refl, List, [], ◌∷◌, ◌++◌, map, Bool, true, false, cond, not, ◌&&◌, ◌||◌, length, eqb, leb}
use Rattle.std.proofs.Common.{sym, ap, ap₂, ◌∙◌, subst, append-nil, arith, length-append, leb-true, leb-false, eqb-true, ne_eqb, le-leb}
use Rattle.std.proofs.Math.Bool.{and-false}
use Rattle.std.proofs.Math.Option.{none}
use Rattle.std.proofs.lemmas.List.{length-map}
use Rattle.std.proofs.lemmas.Bool.{lt-leb}
use Rattle.lists.specs.Defs.{first, keep, any, has}
use Rattle.lists.specs.Bools.{and_both}
use Rattle.values.specs.declared.cid.ConnectionId.{ConnectionId}
use Rattle.values.specs.Limits.{queue_slots}
use Rattle.values.specs.Cid.{same_id}
use Rattle.ids_rules.specs.Values.{Item, seq_of, has_seq}
use Rattle.ids_rules.specs.View.{View, Answer, Nothing, Out, refused, accepted}
use Rattle.ids_rules.specs.Steps.{fresh, fresh_formed, zero_view, sole, without, used}
use Rattle.ids_rules.proofs.Ends.{AddScidEnds, refuses, raises, issues as issues-one, RetireScidEnds, unissued, only, absent, out as taken_out, frees, AddDcidEnds, rejects, again, waits, late4, late, lowers, renews, adds, add_scid_ends, retire_scid_ends, add_dcid_ends}
use Rattle.ids_rules.specs.Well.{well}
use Rattle.ids_rules.specs.Calls.{Call, SetInitialDcid, SetScidLimit, AddScid, RetireScid, AddDcid, MarkScidUsed, MarkDcidUsed, MarkScidToAdvertise, MarkDcidToRetire, Ask}
use Rattle.ids_rules.specs.Calls.{Query, GetScid, GetDcid, FindScid, UnusedScids, UnusedDcids, LowestUnusedDcidSeq, NextScidToAdvertise, NextDcidToRetire, CreateNewConnectionIdFrame, NeedSendCidControlFrames, ZeroLengthScid, ZeroLengthDcid, ScidCount, ScidAt, DcidCount, DcidAt}
use Rattle.ids_rules.specs.Calls.{Reply, reply, call_formed, step, apply, after, run}
use Rattle.ids_rules.specs.Laws.{decided, optioned, never, none_append, none_keep}
use Rattle.ids_rules.proofs.Kept.{Well, well_is, absent_high, used_seq}
use Rattle.ids_rules.proofs.Never.{fresh_well_lem, keeps_well_lem, run_well}
use Rattle.ids_rules.specs.Promise.{Starts, starts, Event, event, history, issued_by, issues, retires, out, logged, remaining, counted, sequences, WithoutGap, TableIsHistory, NeverReturns}

-- ---- sequences of a list of items

pub has_map : (s : ℕ) (l : List Item) → has s (map seq_of l) ≡ any (has_seq s) l
has_map s [] = refl
has_map s (x ∷ l) = ap (λ (b : Bool). eqb s x.seq || b) (has_map s l)

pub map_more : (l : List Item) (x : Item) → map seq_of (l ++ (x ∷ [])) ≡ map seq_of l ++ (x.seq ∷ [])
map_more [] x = refl
map_more (y ∷ l) x = ap (λ (m : List ℕ). y.seq ∷ m) (map_more l x)

map_without : (s : ℕ) (l : List Item) → map seq_of (without s l) ≡ keep (λ (n : ℕ). not (eqb s n)) (map seq_of l)
map_without s [] = refl
map_without s (x ∷ l) = test (eqb s x.seq) (map_without s l)
  where
    test : (b : Bool) → map seq_of (without s l) ≡ keep (λ (n : ℕ). not (eqb s n)) (map seq_of l)
        → map seq_of (cond (not b) (x ∷ without s l) (without s l)) ≡ cond (not b) (x.seq ∷ keep (λ (n : ℕ). not (eqb s n)) (map seq_of l)) (keep (λ (n : ℕ). not (eqb s n)) (map seq_of l))
    test true e = e
    test false e = ap (λ (m : List ℕ). x.seq ∷ m) e

pub map_used : (s p : ℕ) (l : List Item) → map seq_of (used s p l) ≡ map seq_of l
map_used s p [] = refl
map_used s p (x ∷ l) = ap₂ (λ (n : ℕ) (m : List ℕ). n ∷ m) (used_seq s p x) (map_used s p l)

-- ---- what one call does

-- a call issues nothing, or the next sequence
data Issue : List ℕ → ℕ → ℕ → Type 0 where
  nothing : {n : ℕ} → Issue [] n n
  one : {n : ℕ} → Issue (n ∷ []) n (n + 1)

record Traced (v : View) (c : Call) (o : Out) : Type 0 where
  table : sequences o.view ≡ logged (sequences v) (record { call = c; refusal = o.refusal; answer = o.answer })
  issue : Issue (issued_by o.answer) v.next_scid_seq o.view.next_scid_seq

-- a call that is no retire, and neither issues nor takes out
still : (v : View) (c : Call) (o : Out) → retires c ≡ none → sequences o.view ≡ sequences v → o.view.next_scid_seq ≡ v.next_scid_seq → issued_by o.answer ≡ [] → Traced v c o
still v c o r t n a = record {
  table = rw (r, a) (t ∙ sym (append-nil (sequences v)));
  issue = rw (a, n) nothing;
}

add_traced : (c : Call) {x : Item} {advertise : Bool} {v : View} {o : Out} → retires c ≡ none → x.seq ≡ v.next_scid_seq → AddScidEnds x advertise v o → Traced v c o
add_traced c {v = v} e q (refuses n k) = still v c _ e refl refl refl
add_traced c {v = v} e q (raises n r k t) = still v c _ e refl refl refl
add_traced c {x} {v = v} e q (issues-one r t n p l a) = record { table = rw e (map_more v.scids x ∙ ap (λ (n : ℕ). sequences v ++ (n ∷ [])) q); issue = one }

-- a retire that takes nothing out, and one that does
stays : (s : ℕ) (l : List ℕ) → (leb 2 (length l) && has s l) ≡ false → out s l ≡ l
stays s l e = rw e

goes : (s : ℕ) (l : List ℕ) → (leb 2 (length l) && has s l) ≡ true → out s l ≡ keep (λ (n : ℕ). not (eqb s n)) l
goes s l e = rw e

module _ (v : View) (s : ℕ) where
  absent_stays : any (has_seq s) v.scids ≡ false → sequences v ≡ out s (sequences v)
  absent_stays e = sym (stays s (sequences v) (ap (λ (b : Bool). leb 2 (length (sequences v)) && b) (has_map s v.scids ∙ e) ∙ and-false (leb 2 (length (sequences v)))))

  sole_stays : sole s v.scids ≡ true → sequences v ≡ out s (sequences v)
  sole_stays e =
      let w = and_both (leb (length v.scids) 1) (any (has_seq s) v.scids) e in
      let n : leb 2 (length (sequences v)) ≡ false = lt-leb 2 (length (sequences v)) (omega (arith, leb-true (length v.scids) 1 w.0, length-map v.scids seq_of)) in
      sym (stays s (sequences v) (ap (λ (b : Bool). b && has s (sequences v)) n))

  present_goes : sole s v.scids ≡ false → any (has_seq s) v.scids ≡ true → map seq_of (without s v.scids) ≡ out s (sequences v)
  present_goes o a =
      let n : leb (length v.scids) 1 ≡ false = test (leb (length v.scids) 1) (any (has_seq s) v.scids) a o in
      let m : leb 2 (length (sequences v)) ≡ true = le-leb 2 (length (sequences v)) (omega (arith, leb-false (length v.scids) 1 n, length-map v.scids seq_of)) in
      map_without s v.scids ∙ sym (goes s (sequences v) (rw m (has_map s v.scids ∙ a)))
    where
      test : (a b : Bool) → b ≡ true → (a && b) ≡ false → a ≡ false
      test true b p q = sym p ∙ q
      test false b p q = refl

  retire_traced : (packet : ConnectionId) {o : Out} → Well v → RetireScidEnds s packet v o → Traced v (RetireScid s packet) o
  retire_traced packet h (unissued k) = record { table = absent_stays (absent_high s 0 v.next_scid_seq v.scids k h.source.rises); issue = nothing }
  retire_traced packet h (only e) = record { table = sole_stays e; issue = nothing }
  retire_traced packet h (absent e) = record { table = absent_stays e; issue = nothing }
  retire_traced packet h (taken_out n k a e) = record { table = rw (ne_eqb n 1 (λ z. omega arith)) (present_goes e a); issue = nothing }
  retire_traced packet h (frees x r a e l) = record { table = present_goes e a; issue = nothing }

-- ---- the calls that touch no source sequence

dcid_traced : (c : Call) {x : Item} {b : ℕ} {v : View} {o : Out} → retires c ≡ none → AddDcidEnds x b v o → Traced v c o
dcid_traced c {v = v} e (rejects n k) = still v c _ e refl refl refl
dcid_traced c {v = v} e (again k) = still v c _ e refl refl refl
dcid_traced c {v = v} e (waits n k q) = still v c _ e refl refl refl
dcid_traced c {v = v} e (late4 n k l) = still v c _ e refl refl refl
dcid_traced c {v = v} e (late n k l t) = still v c _ e refl refl refl
dcid_traced c {v = v} e (lowers m k n l q) = still v c _ e refl refl refl
dcid_traced c {v = v} e (renews n l q r t) = still v c _ e refl refl refl
dcid_traced c {v = v} e (adds n l q r) = still v c _ e refl refl refl

-- a query issues nothing
pub reply_quiet : (v : View) (q : Query) → issued_by (reply v q).answer ≡ []
reply_quiet v (GetScid s) = optioned (λ (r : Reply). issued_by r.answer ≡ []) (first (has_seq s) v.scids) (λ e. refl) (λ x e. refl)
reply_quiet v (GetDcid s) = optioned (λ (r : Reply). issued_by r.answer ≡ []) (first (has_seq s) v.dcids) (λ e. refl) (λ x e. refl)
reply_quiet v (FindScid c) = optioned (λ (a : Answer). issued_by a ≡ []) (first (λ (x : Item). same_id x.cid c) v.scids) (λ e. refl) (λ x e. refl)
reply_quiet v UnusedScids = refl
reply_quiet v UnusedDcids = refl
reply_quiet v LowestUnusedDcidSeq = refl
reply_quiet v NextScidToAdvertise = refl
reply_quiet v NextDcidToRetire = refl
reply_quiet v (CreateNewConnectionIdFrame s) =
    optioned (λ (r : Reply). issued_by r.answer ≡ []) (first (has_seq s) v.scids) (λ e. refl)
    (λ x e. optioned (λ (r : Reply). issued_by r.answer ≡ []) x.token (λ e. refl) (λ t e. refl))
reply_quiet v NeedSendCidControlFrames = refl
reply_quiet v ZeroLengthScid = refl
reply_quiet v ZeroLengthDcid = refl
reply_quiet v ScidCount = refl
reply_quiet v (ScidAt i) = refl
reply_quiet v DcidCount = refl
reply_quiet v (DcidAt i) = refl

step_traced : (v : View) (c : Call) → Well v → Traced v c (step v c)
step_traced v (SetInitialDcid cid token path) h = still v _ _ refl refl refl refl
step_traced v (SetScidLimit n) h = still v _ _ refl refl refl refl
step_traced v (AddScid cid token advertise path retire_if_needed) h = add_traced _ refl refl (add_scid_ends cid token advertise path v retire_if_needed)
step_traced v (RetireScid s packet) h = retire_traced v s packet h (retire_scid_ends s packet v)
step_traced v (AddDcid cid s token b) h = dcid_traced _ refl (add_dcid_ends cid s token b v)
step_traced v (MarkScidUsed s p) h =
    let c : Call = MarkScidUsed s p in
    decided (Traced v c) (any (has_seq s) v.scids) (λ e. still v c _ refl (map_used s p v.scids) refl refl) (λ e. still v c _ refl refl refl refl)
step_traced v (MarkDcidUsed s p) h =
    let c : Call = MarkDcidUsed s p in
    decided (Traced v c) (any (has_seq s) v.dcids) (λ e. still v c _ refl refl refl refl) (λ e. still v c _ refl refl refl refl)
step_traced v (MarkScidToAdvertise s on) h =
    let c : Call = MarkScidToAdvertise s on in
    decided (Traced v c) (on && leb queue_slots (length v.scids_to_advertise)) (λ e. still v c _ refl refl refl refl) (λ e. still v c _ refl refl refl refl)
step_traced v (MarkDcidToRetire s on) h =
    let c : Call = MarkDcidToRetire s on in
    decided (Traced v c) (on && leb queue_slots (length v.dcids_to_retire)) (λ e. still v c _ refl refl refl refl) (λ e. still v c _ refl refl refl refl)
step_traced v (Ask q) h = still v (Ask q) _ refl refl refl (reply_quiet v q)

-- answered 1: nothing moves
one_traced : (v : View) (c : Call) → Traced v c (refused 1 v)
one_traced v c = record { table = optioned (λ (l : List ℕ). sequences v ≡ l) (retires c) (λ e. sym (append-nil (sequences v))) (λ s e. refl); issue = nothing }

traced : (v : View) (c : Call) → Well v → Traced v c (apply v c)
traced v c h = decided (Traced v c) (well v && call_formed c) (λ e. step_traced v c h) (λ e. one_traced v c)

-- ---- a run

join : {a : List ℕ} {n m : ℕ} → Issue a n m → (l : List ℕ) → l ≡ counted m (length l) → a ++ l ≡ counted n (length (a ++ l))
join nothing l e = e
join (one {n = n}) l e = ap (λ (k : List ℕ). n ∷ k) e

longer : {a : List ℕ} {n m : ℕ} → Issue a n m → m ≡ n + length a
longer nothing = omega arith
longer one = omega arith

record Ran (v : View) (cs : List Call) : Type 0 where
  gapless : issues (history v cs) ≡ counted v.next_scid_seq (length (issues (history v cs)))
  table : sequences (run v cs) ≡ remaining (sequences v) (history v cs)
  next : (run v cs).next_scid_seq ≡ v.next_scid_seq + length (issues (history v cs))

ran : (cs : List Call) (v : View) → well v ≡ true → Ran v cs
ran [] v h = record { gapless = refl; table = refl; next = omega arith }
ran (c ∷ cs) v h =
    let t : Traced v c (apply v c) = traced v c (well_is v h) in
    let r : Ran (after v c) cs = ran cs (after v c) (keeps_well_lem v c h) in
    record {
      gapless = join t.issue (issues (history (after v c) cs)) r.gapless;
      table = r.table ∙ ap (λ (l : List ℕ). remaining l (history (after v c) cs)) t.table;
      next = omega (arith, r.next, longer t.issue, length-append (issued_by (apply v c).answer) (issues (history (after v c) cs)));
    }

-- ---- once out, never back

not_issued_lem : (s : ℕ) {a : List ℕ} {n m : ℕ} → Issue a n m → s < n → has s a ≡ false
not_issued_lem s nothing k = refl
not_issued_lem s (one {n = n}) k = rw (ne_eqb s n (λ e. omega arith))

not_logged : (s : ℕ) (l : List ℕ) (e : Event) → has s l ≡ false → has s (issued_by e.answer) ≡ false → has s (logged l e) ≡ false
not_logged s l e h k =
    optioned (λ (m : List ℕ). has s m ≡ false) (retires e.call) (λ r. none_append (eqb s) l (issued_by e.answer) h k) (λ q r.
    decided (λ (m : List ℕ). has s m ≡ false) (eqb e.refusal 1) (λ r. h) (λ r.
    decided (λ (m : List ℕ). has s m ≡ false) (leb 2 (length l) && has q l) (λ r. none_keep (eqb s) (λ (n : ℕ). not (eqb q n)) l h) (λ r. h)))

gone : (s : ℕ) (cs : List Call) (v : View) → well v ≡ true → s < v.next_scid_seq → has s (sequences v) ≡ false → has s (sequences (run v cs)) ≡ false
gone s [] v h n k = k
gone s (c ∷ cs) v h n k =
    let t : Traced v c (apply v c) = traced v c (well_is v h) in
    gone s cs (after v c) (keeps_well_lem v c h) (omega (arith, longer t.issue)) (rw t.table (not_logged s (sequences v) (event v c) k (not_issued_lem s t.issue n)))

counted_below : (s n k : ℕ) → has s (counted n k) ≡ true → s < n + k
counted_below s n zero e = never (sym e)
counted_below s n (suc k) e = test (eqb s n) refl (counted_below s (n + 1) k) e
  where
    test : (b : Bool) → eqb s n ≡ b → (has s (counted (n + 1) k) ≡ true → s < n + 1 + k) → (b || has s (counted (n + 1) k)) ≡ true → s < n + suc k
    test true q i e = omega (arith, eqb-true s n q)
    test false q i e = omega (arith, i e)

run_append : (cs ds : List Call) (v : View) → run v (cs ++ ds) ≡ run (run v cs) ds
run_append [] ds v = refl
run_append (c ∷ cs) ds v = run_append cs ds (after v c)

-- ---- a fresh state

pub record Begun (v : View) : Type 0 where
  pub next : v.next_scid_seq ≡ 1
  pub table : sequences v ≡ 0 ∷ []

pub begun : (v : View) → Starts v → Begun v
begun v (starts dcid_limit cid path token e) = test (fresh_formed dcid_limit cid) e
  where
    test : (b : Bool) → (cond b (accepted Nothing (fresh dcid_limit cid path token)) (refused 1 zero_view)).refusal ≡ 0 → Begun (cond b (accepted Nothing (fresh dcid_limit cid path token)) (refused 1 zero_view)).view
    test true e = record { next = refl; table = refl }
    test false e = absurd (omega arith)

pub without_gap_lem : WithoutGap
without_gap_lem v f cs = subst (λ (n : ℕ). issues (history v cs) ≡ counted n (length (issues (history v cs)))) (begun v f).next (ran cs v (fresh_well_lem v f)).gapless

pub table_is_history_lem : TableIsHistory
table_is_history_lem v f cs = (ran cs v (fresh_well_lem v f)).table ∙ ap (λ (l : List ℕ). remaining l (history v cs)) (begun v f).table

pub never_returns_lem : NeverReturns
never_returns_lem v f cs ds s was gone_now =
    let r : Ran v cs = ran cs v (fresh_well_lem v f) in
    let k : has s (counted 0 (suc (length (issues (history v cs))))) ≡ true = ap (λ (l : List ℕ). has s (0 ∷ l)) (sym (without_gap_lem v f cs)) ∙ was in
    rw (run_append cs ds v)
    (gone s ds (run v cs) (run_well cs v (fresh_well_lem v f)) (omega (arith, counted_below s 0 (suc (length (issues (history v cs)))) k, r.next, (begun v f).next)) gone_now)
