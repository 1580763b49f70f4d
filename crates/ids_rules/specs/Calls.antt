-- Every published call of the IDs but fresh (docs/RULES.md, "Source IDs", "Destination IDs", "Marks, queues and lookups"), and runs of calls.
use Rattle.std.specs.Prelude.{ℕ, List, [], ◌∷◌, map, Bool, true, cond, not, ◌&&◌, ◌||◌, length}
use Rattle.std.proofs.Math.Option.{Option}
use Rattle.lists.specs.Defs.{maybe, first, keep, least, front, at, empty}
use Rattle.values.specs.declared.cid.ConnectionId.{ConnectionId}
use Rattle.values.specs.Cid.{id_formed}
use Rattle.ids_rules.specs.Values.{seq_of, has_seq, has_cid, unused}
use Rattle.ids_rules.specs.View.{View, Answer, Nothing, Whole, Maybe, Found, Number, Perhaps, Flag, Frame, Out, refused}
use Rattle.ids_rules.specs.Steps.{set_initial_dcid, set_scid_limit, add_scid, retire_scid, add_dcid, mark_scid_used, mark_dcid_used, mark_scid_to_advertise, mark_dcid_to_retire}
use Rattle.ids_rules.specs.Well.{well}

-- a call that only reads
pub data Query : Type 0 where
  GetScid : (seq : ℕ) → Query
  GetDcid : (seq : ℕ) → Query
  FindScid : ConnectionId → Query
  UnusedScids : Query
  UnusedDcids : Query
  LowestUnusedDcidSeq : Query
  NextScidToAdvertise : Query
  NextDcidToRetire : Query
  CreateNewConnectionIdFrame : (seq : ℕ) → Query
  NeedSendCidControlFrames : Query
  ZeroLengthScid : Query
  ZeroLengthDcid : Query
  ScidCount : Query
  ScidAt : ℕ → Query
  DcidCount : Query
  DcidAt : ℕ → Query

pub data Call : Type 0 where
  SetInitialDcid : ConnectionId → (token : Option (List ℕ)) (path : Option ℕ) → Call
  SetScidLimit : ℕ → Call
  AddScid : ConnectionId → (token : Option (List ℕ)) (advertise : Bool) (path : Option ℕ) (retire_if_needed : Bool) → Call
  RetireScid : (seq : ℕ) → (packet : ConnectionId) → Call
  AddDcid : ConnectionId → (seq : ℕ) (token : List ℕ) (retire_prior_to : ℕ) → Call
  MarkScidUsed : (seq path : ℕ) → Call
  MarkDcidUsed : (seq path : ℕ) → Call
  MarkScidToAdvertise : (seq : ℕ) (on : Bool) → Call
  MarkDcidToRetire : (seq : ℕ) (on : Bool) → Call
  Ask : Query → Call

-- ---- a call that only reads: its refusal and its answer

pub record Reply : Type 0 where
  pub refusal : ℕ
  pub answer : Answer

abbrev pub says : Answer → Reply
says a = record { refusal = 0; answer = a }

abbrev pub says2 : Reply
says2 = record { refusal = 2; answer = Nothing }

abbrev pub reply : View → Query → Reply
reply v (GetScid s) = maybe (first (has_seq s) v.scids) says2 (λ x. says (Whole x))
reply v (GetDcid s) = maybe (first (has_seq s) v.dcids) says2 (λ x. says (Whole x))
reply v (FindScid c) = says (maybe (first (has_cid c) v.scids) Nothing (λ x. Found x.seq x.path))
reply v UnusedScids = says (Number (length (keep unused v.scids)))
reply v UnusedDcids = says (Number (cond v.zero_length_dcid 0 (length (keep unused v.dcids))))
reply v LowestUnusedDcidSeq = says (Perhaps (least (map seq_of (keep unused v.dcids))))
reply v NextScidToAdvertise = says (Perhaps (front v.scids_to_advertise))
reply v NextDcidToRetire = says (Perhaps (front v.dcids_to_retire))
reply v (CreateNewConnectionIdFrame s) = maybe (first (has_seq s) v.scids) says2 (λ x. maybe x.token says2 (λ t. says (Frame s v.retire_prior_to x.cid t)))
reply v NeedSendCidControlFrames = says (Flag (not (empty v.dcids_to_retire) || not (empty v.scids_to_advertise)))
reply v ZeroLengthScid = says (Flag v.zero_length_scid)
reply v ZeroLengthDcid = says (Flag v.zero_length_dcid)
reply v ScidCount = says (Number (length v.scids))
reply v (ScidAt i) = says (Maybe (at i v.scids))
reply v DcidCount = says (Number (length v.dcids))
reply v (DcidAt i) = says (Maybe (at i v.dcids))

-- ---- any call

-- the arguments have their forms
abbrev pub query_formed : Query → Bool
query_formed (GetScid s) = true
query_formed (GetDcid s) = true
query_formed (FindScid c) = id_formed c
query_formed UnusedScids = true
query_formed UnusedDcids = true
query_formed LowestUnusedDcidSeq = true
query_formed NextScidToAdvertise = true
query_formed NextDcidToRetire = true
query_formed (CreateNewConnectionIdFrame s) = true
query_formed NeedSendCidControlFrames = true
query_formed ZeroLengthScid = true
query_formed ZeroLengthDcid = true
query_formed ScidCount = true
query_formed (ScidAt i) = true
query_formed DcidCount = true
query_formed (DcidAt i) = true

abbrev pub call_formed : Call → Bool
call_formed (SetInitialDcid cid token path) = id_formed cid
call_formed (SetScidLimit n) = true
call_formed (AddScid cid token advertise path retire_if_needed) = id_formed cid
call_formed (RetireScid s packet) = id_formed packet
call_formed (AddDcid cid s token b) = id_formed cid
call_formed (MarkScidUsed s p) = true
call_formed (MarkDcidUsed s p) = true
call_formed (MarkScidToAdvertise s on) = true
call_formed (MarkDcidToRetire s on) = true
call_formed (Ask q) = query_formed q

abbrev pub step : View → Call → Out
step v (SetInitialDcid cid token path) = set_initial_dcid cid token path v
step v (SetScidLimit n) = set_scid_limit n v
step v (AddScid cid token advertise path retire_if_needed) = add_scid cid token advertise path retire_if_needed v
step v (RetireScid s packet) = retire_scid s packet v
step v (AddDcid cid s token b) = add_dcid cid s token b v
step v (MarkScidUsed s p) = mark_scid_used s p v
step v (MarkDcidUsed s p) = mark_dcid_used s p v
step v (MarkScidToAdvertise s on) = mark_scid_to_advertise s on v
step v (MarkDcidToRetire s on) = mark_dcid_to_retire s on v
step v (Ask q) = record { refusal = (reply v q).refusal; answer = (reply v q).answer; view = v }

-- 1 comes first: an argument not of its form, or a state not well formed
abbrev pub apply : View → Call → Out
apply v c = cond (well v && call_formed c) (step v c) (refused 1 v)

-- the view after a call, and after a run of calls
abbrev pub after : View → Call → View
after v c = (apply v c).view

abbrev pub run : View → List Call → View
run v [] = v
run v (c ∷ cs) = run (after v c) cs
