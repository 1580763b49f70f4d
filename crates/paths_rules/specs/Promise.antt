-- What is promised over any run of calls, refused ones too: docs/RULES.md, "Well-formed paths" and "What every published call owes". This file is
-- the statement; the proofs are in proofs/: Kept.antt, Frame.antt and Promised.antt.
use Rattle.std.specs.Prelude.{ℕ, ◌+◌, ◌-◌, ◌*◌, ◌^◌, ◌≤◌, ◌<◌, ◌≡◌, List, [], ◌∷◌, ◌++◌, Bool, true, false, cond, not, ◌&&◌, length, eqb}
use Rattle.std.proofs.Math.Option.{Option, none, some}
use Rattle.lists.specs.Defs.{first_with}
use Rattle.values.specs.declared.address.FourTuple.{FourTuple}
use Rattle.paths_rules.specs.With.{with_listed}
use Rattle.paths_rules.specs.Path.{listed_as, validated, matches}
use Rattle.paths_rules.specs.Table.{Table, Out, Inserted, Responded, refused, accepted, fresh_call, path_at}
use Rattle.paths_rules.specs.Well.{well}
use Rattle.paths_rules.specs.Calls.{Act, Initiate, Pop, Receive, Send, Respond, Credit, Charge, SetScid, SetDcid, SetActive, Verify, Look, Call, On, Insert}
use Rattle.paths_rules.specs.Calls.{Timeout, Ping, Multipath, Ask, is_moment, call_formed, apply, after, run}

-- ---- a fresh table not refused, on a server or not, with its factor

pub data Starts (server : Bool) (factor : ℕ) : Table → Type 0 where
  starts : (a : FourTuple) (m limit : ℕ) → (fresh_call a m limit factor server).refusal ≡ 0 → Starts server factor (fresh_call a m limit factor server).table

-- ---- the answer is determined

abbrev pub Determined : Type 0
Determined = (t : Table) (c : Call) (a b : Out) → a ≡ apply t c → b ≡ apply t c → a ≡ b

-- ---- never answered 1

-- a fresh table not refused is well formed
abbrev pub FreshWell : Type 0
FreshWell = (server : Bool) (factor : ℕ) (t : Table) → Starts server factor t → well t ≡ true

-- every call keeps every well-formed table so, whether calls can reach it or not
abbrev pub KeepsWell : Type 0
KeepsWell = (t : Table) (c : Call) → well t ≡ true → well (after t c) ≡ true

-- on a well-formed table a call is answered 1 exactly if an argument of it has not its form
abbrev pub OneIsForm : Type 0
OneIsForm = (t : Table) (c : Call) → well t ≡ true → eqb (apply t c).refusal 1 ≡ not (call_formed c)

-- and so it is after any calls from a fresh table
abbrev pub NeverOne : Type 0
NeverOne = (server : Bool) (factor : ℕ) (t : Table) → Starts server factor t
    → (cs : List Call) (c : Call) → eqb (apply (run t cs) c).refusal 1 ≡ not (call_formed c)

-- ---- the law of the allowance: the totals, of the calls alone, refused ones too, in unbounded numbers

-- the lengths that a call credits and charges to its path
pub record Amounts : Type 0 where
  pub credit : ℕ
  pub charge : ℕ

abbrev pub nothing : Amounts
nothing = record { credit = 0; charge = 0 }

abbrev pub amounts : Act → Amounts
amounts Initiate = nothing
amounts Pop = nothing
amounts (Receive d) = nothing
amounts (Send d size now) = nothing
amounts (Respond d now) = nothing
amounts (Credit n) = record { credit = n; charge = 0 }
amounts (Charge n) = record { credit = 0; charge = n }
amounts (SetScid o) = nothing
amounts (SetDcid o) = nothing
amounts (SetActive b) = nothing
amounts Verify = nothing
amounts (Look r) = nothing

-- the lengths that a call credits and charges to the path p
abbrev pub amounts_to : ℕ → Call → Amounts
amounts_to p (On q a) = cond (eqb q p) (amounts a) nothing
amounts_to p (Insert a m) = nothing
amounts_to p (Timeout now) = nothing
amounts_to p (Ping o) = nothing
amounts_to p Multipath = nothing
amounts_to p (Ask s) = nothing

abbrev pub total_credit : ℕ → List Call → ℕ
total_credit p [] = 0
total_credit p (c ∷ cs) = (amounts_to p c).credit + total_credit p cs

abbrev pub total_charge : ℕ → List Call → ℕ
total_charge p [] = 0
total_charge p (c ∷ cs) = (amounts_to p c).charge + total_charge p cs

-- ---- the period

-- the period of p lasts through the calls: before each, p's peer address is unverified, and none is an insertion that answers p
abbrev pub Lasts : ℕ → Table → List Call → Type 0
Lasts p t [] = Unit {0}
Lasts p t (c ∷ cs) = ((path_at p t).verified ≡ false) × ((apply t c).answer ≡ Inserted p → ⊥) × Lasts p (after t c) cs

-- the premise: each charge is at most p's credit just before that call
abbrev pub Within : ℕ → Table → List Call → Type 0
Within p t [] = Unit {0}
Within p t (c ∷ cs) = ((amounts_to p c).charge ≤ (path_at p t).credit) × Within p (after t c) cs

-- with a starting allowance, the credit that p has at the beginning, on any well-formed table of a server: what is charged and what is left come to
-- at most what there was and what was credited, and to exactly that while it stays below 2^64
abbrev pub Allowance : Type 0
Allowance = (p : ℕ) (t : Table) (cs : List Call) → well t ≡ true → t.server ≡ true → p < length t.paths → Lasts p t cs → Within p t cs
    → (total_charge p cs + (path_at p (run t cs)).credit ≤ (path_at p t).credit + t.factor * total_credit p cs)
    × ((path_at p t).credit + t.factor * total_credit p cs < 2 ^ 64
    → total_charge p cs + (path_at p (run t cs)).credit ≡ (path_at p t).credit + t.factor * total_credit p cs)

-- where a period of p begins, on a server with this factor: path 0 of a fresh table, or, after any calls, an insertion that answers p
pub data Begins (factor : ℕ) : ℕ → Table → Type 0 where
  first : (t : Table) → Starts true factor t → Begins factor 0 t
  inserted : (t : Table) → Starts true factor t → (before : List Call) (b : FourTuple) (n p : ℕ)
      → (apply (run t before) (Insert b n)).answer ≡ Inserted p → Begins factor p (after (run t before) (Insert b n))

-- from the beginning of a period no more is charged than factor x credited, and what is left is the difference
abbrev pub Demand3 : Type 0
Demand3 = (factor p : ℕ) (t : Table) → Begins factor p t → (cs : List Call) → Lasts p t cs → Within p t cs
    → (total_charge p cs ≤ factor * total_credit p cs)
    × (factor * total_credit p cs < 2 ^ 64 → (path_at p (run t cs)).credit ≡ factor * total_credit p cs - total_charge p cs)

-- the beginning and the calls of its period are one run from a fresh table
abbrev pub OneRun : Type 0
OneRun = (t : Table) (before cs : List Call) (c : Call) → run t (before ++ (c ∷ cs)) ≡ run (after (run t before) c) cs

-- ---- the frame: what else a call may do to the path p

-- the path that a call names: by its id, or a ping by a listed pair, with multipath on
abbrev pub names : Table → Call → Option ℕ
names t (On q a) = some q
names t (Insert a m) = none
names t (Timeout now) = none
names t (Ping none) = none
names t (Ping (some a)) = cond t.multipath (first_with (listed_as a) t.paths) none
names t Multipath = none
names t (Ask s) = none

-- a call that names another path leaves every field of p
abbrev pub Frame : Type 0
Frame = (p q : ℕ) (t : Table) (c : Call) → names t c ≡ some q → (q ≡ p → ⊥) → path_at p (after t c) ≡ path_at p t

-- an insertion that does not answer p changes at most p's listing
abbrev pub InsertionFrame : Type 0
InsertionFrame = (p : ℕ) (a : FourTuple) (m : ℕ) (t : Table) → ((apply t (Insert a m)).answer ≡ Inserted p → ⊥)
    → (b : Bool) → with_listed b (path_at p (after t (Insert a m))) ≡ with_listed b (path_at p t)

-- and it may take that listing away, but gives none: p is listed after it only if it was before
abbrev pub InsertionUnlists : Type 0
InsertionUnlists = (p : ℕ) (a : FourTuple) (m : ℕ) (t : Table) → ((apply t (Insert a m)).answer ≡ Inserted p → ⊥)
    → (path_at p (after t (Insert a m))).listed ≡ true → (path_at p t).listed ≡ true

-- p becomes verified only by the mark, or by a response on p, not yet Validated, that matches a challenge in p's own sent list [2]
abbrev pub OnlyVerified : Type 0
OnlyVerified = (p : ℕ) (t : Table) (c : Call) → (c ≡ On p Verify → ⊥)
    → ((d now : ℕ) → c ≡ On p (Respond d now) → validated (path_at p t) ≡ false → matches d (path_at p t) ≡ true → ⊥)
    → (path_at p t).verified ≡ false → (path_at p (after t c)).verified ≡ false

-- a response that matches no challenge in p's sent list answers no, without a span, and leaves the whole table, whatever p's state [2]
abbrev pub Unasked : Type 0
Unasked = (p d now : ℕ) (t : Table) → matches d (path_at p t) ≡ false
    → apply t (On p (Respond d now)) ≡ cond (well t && is_moment now) (accepted (Responded false []) t) (refused 1 t)

-- only a credit to p, a charge to p, and an insertion that answers p change p's credit
abbrev pub OnlyCredit : Type 0
OnlyCredit = (p : ℕ) (t : Table) (c : Call)
    → ((n : ℕ) → c ≡ On p (Credit n) → ⊥) → ((n : ℕ) → c ≡ On p (Charge n) → ⊥) → ((apply t c).answer ≡ Inserted p → ⊥)
    → (path_at p (after t c)).credit ≡ (path_at p t).credit
