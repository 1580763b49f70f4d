-- docs/RULES.md, "Worked trials", 1 to 8: one table, and one theorem that every row computes.
use Rattle.std.specs.Prelude.{ℕ, ◌≡◌, refl, List, [], ◌∷◌, ◌++◌, map, true, false, replicate}
use Rattle.std.proofs.Math.Option.{none, some}
use Rattle.values.specs.declared.cid.ConnectionId.{ConnectionId}
use Rattle.values.specs.Cid.{cid_new_of}
use Rattle.values.specs.Limits.{token_len}
use Rattle.ids_rules.specs.Values.{seq_of}
use Rattle.ids_rules.specs.View.{Out, Answer, Nothing, Issued, Retired}
use Rattle.ids_rules.specs.Steps.{fresh}
use Rattle.ids_rules.specs.Calls.{Call, SetInitialDcid, SetScidLimit, AddScid, RetireScid, AddDcid, MarkDcidToRetire, apply, run}

-- what a trial looks at after its last call
pub record Seen : Type 0 where
  pub refusal : ℕ
  pub answer : Answer
  pub limit : ℕ
  pub capacity : ℕ
  pub retire_prior_to : ℕ
  pub sources : List ℕ
  pub destinations : List ℕ
  pub queue : List ℕ

abbrev pub seen : Out → Seen
seen o = record {
  refusal = o.refusal;
  answer = o.answer;
  limit = o.view.scid_limit;
  capacity = o.view.scid_capacity;
  retire_prior_to = o.view.retire_prior_to;
  sources = map seq_of o.view.scids;
  destinations = map seq_of o.view.dcids;
  queue = o.view.dcids_to_retire;
}

-- from a fresh state of the destination limit, the calls before, and the last call: what is seen
pub record Row : Type 0 where
  pub trial : ℕ
  pub limit : ℕ
  pub before : List Call
  pub last : Call
  pub sees : Seen

-- ---- the words of the table

abbrev cid : ℕ → ConnectionId
cid n = cid_new_of (n ∷ [])

abbrev token : List ℕ
token = replicate token_len 9

-- without leave to retire, and with leave
abbrev add : ℕ → Call
add n = AddScid (cid n) (some token) false none false

abbrev add_leave : ℕ → Call
add_leave n = AddScid (cid n) (some token) false none true

-- no item has the packet's ID
abbrev retire : ℕ → Call
retire s = RetireScid s (cid 99)

-- the peer's sequence s, with the ID that belongs to it, and Retire Prior To b
abbrev peer : ℕ → ℕ → Call
peer s b = AddDcid (cid s) s token b

abbrev initial : Call
initial = SetInitialDcid (cid 0) (some token) (some 0)

-- IDs issued, and nothing of the peer; IDs of the peer, and nothing issued
abbrev ours : ℕ → Answer → ℕ → ℕ → ℕ → List ℕ → Seen
ours n a l c r s = record { refusal = n; answer = a; limit = l; capacity = c; retire_prior_to = r; sources = s; destinations = []; queue = [] }

abbrev theirs : ℕ → Answer → List ℕ → List ℕ → Seen
theirs n a d q = record { refusal = n; answer = a; limit = 2; capacity = 3; retire_prior_to = 0; sources = 0 ∷ []; destinations = d; queue = q }

abbrev row : ℕ → ℕ → List Call → Call → Seen → Row
row t l b c s = record { trial = t; limit = l; before = b; last = c; sees = s }

-- the calls of trial 2, and those that let the retire queue of trial 8 hold three
abbrev two : List Call
two = add 1 ∷ add 2 ∷ add_leave 2 ∷ add_leave 3 ∷ add_leave 4 ∷ add_leave 5 ∷ []

abbrev late : List Call
late = initial ∷ peer 10 10 ∷ peer 1 0 ∷ peer 2 0 ∷ []

-- ---- the table

abbrev pub table : List Row
table =
    row 1 4 [] (SetScidLimit 0) (ours 0 Nothing 2 3 0 (0 ∷ []))
    ∷ row 1 4 (SetScidLimit 0 ∷ []) (SetScidLimit 2) (ours 0 Nothing 2 3 0 (0 ∷ []))
    ∷ row 1 4 (SetScidLimit 0 ∷ SetScidLimit 2 ∷ []) (SetScidLimit 16) (ours 0 Nothing 16 31 0 (0 ∷ []))
    ∷ row 1 4 (SetScidLimit 0 ∷ SetScidLimit 2 ∷ SetScidLimit 16 ∷ []) (SetScidLimit 17) (ours 0 Nothing 16 31 0 (0 ∷ []))
    ∷ row 1 4 (SetScidLimit 0 ∷ SetScidLimit 2 ∷ SetScidLimit 16 ∷ SetScidLimit 17 ∷ []) (SetScidLimit 2) (ours 0 Nothing 2 31 0 (0 ∷ []))
    ∷ row 2 4 [] (add 1) (ours 0 (Issued 1) 2 3 0 (0 ∷ 1 ∷ []))
    ∷ row 2 4 (add 1 ∷ []) (add 2) (ours 3 Nothing 2 3 0 (0 ∷ 1 ∷ []))
    ∷ row 2 4 (add 1 ∷ add 2 ∷ []) (add_leave 2) (ours 0 (Issued 2) 2 3 1 (0 ∷ 1 ∷ 2 ∷ []))
    ∷ row 2 4 (add 1 ∷ add 2 ∷ add_leave 2 ∷ []) (add_leave 3) (ours 3 Nothing 2 3 2 (0 ∷ 1 ∷ 2 ∷ []))
    ∷ row 2 4 (add 1 ∷ add 2 ∷ add_leave 2 ∷ add_leave 3 ∷ []) (add_leave 4) (ours 3 Nothing 2 3 3 (0 ∷ 1 ∷ 2 ∷ []))
    ∷ row 2 4 (add 1 ∷ add 2 ∷ add_leave 2 ∷ add_leave 3 ∷ add_leave 4 ∷ []) (add_leave 5) (ours 2 Nothing 2 3 3 (0 ∷ 1 ∷ 2 ∷ []))
    ∷ row 3 4 two (retire 1) (ours 2 Nothing 2 3 3 (0 ∷ 2 ∷ []))
    ∷ row 4 4 [] (retire 0) (ours 2 Nothing 2 3 0 (0 ∷ []))
    ∷ row 4 4 (retire 0 ∷ []) (retire 1) (ours 4 Nothing 2 3 0 (0 ∷ []))
    ∷ row 5 2 (initial ∷ []) (peer 1 1) (theirs 0 (Retired (record { seq = 0; path = 0 } ∷ [])) (1 ∷ []) (0 ∷ []))
    ∷ row 6 2 (initial ∷ peer 1 1 ∷ []) (peer 0 0) (theirs 0 (Retired []) (1 ∷ []) (0 ∷ []))
    ∷ row 7 2 (initial ∷ peer 1 1 ∷ MarkDcidToRetire 0 false ∷ []) (peer 0 0) (theirs 0 (Retired []) (1 ∷ []) (0 ∷ []))
    ∷ row 8 1 late (peer 3 0) (theirs 0 (Retired []) (10 ∷ []) (0 ∷ 1 ∷ 2 ∷ 3 ∷ []))
    ∷ row 8 1 (late ++ (peer 3 0 ∷ [])) (peer 4 0) (theirs 4 Nothing (10 ∷ []) (0 ∷ 1 ∷ 2 ∷ 3 ∷ 4 ∷ []))
    ∷ []

-- ---- the theorem: each row sees what it says

abbrev pub outcome : Row → Seen
outcome r = seen (apply (run (fresh r.limit (cid 50) 0 (some token)) r.before) r.last)

abbrev pub expected : Row → Seen
expected r = r.sees

pub trials : map outcome table ≡ map expected table
trials = refl
