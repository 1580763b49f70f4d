-- Every published call of the paths but fresh, and runs of calls.
use Rattle.std.specs.Prelude.{ℕ, List, [], ◌∷◌, Bool, true, false, cond, not, ◌&&◌, ◌||◌, length, ltb, leb, eqb}
use Rattle.std.proofs.Math.Option.{Option, none, some}
use Rattle.lists.specs.Defs.{maybe, front, first_with}
use Rattle.values.specs.declared.address.FourTuple.{FourTuple}
use Rattle.values.specs.Address.{pair_formed_of}
use Rattle.values.specs.Limits.{max_shift, max_path_chals_sent, max_moment}
use Rattle.paths_rules.specs.State.{Path}
use Rattle.paths_rules.specs.With.{with_scid_of, with_dcid_of, with_active_of}
use Rattle.paths_rules.specs.Path.{receive, send, loss_time, respond, validates, matched, timeout, pop, gain, spend}
use Rattle.paths_rules.specs.With.{with_verified, with_ask}
use Rattle.paths_rules.specs.Path.{validated, in_use, needs_frames, needs_padding, allowed, listed_as, flagged}
use Rattle.paths_rules.specs.Table.{Table, Out, Answer, Nothing, Responded, Number, Flag, Maybe, Place, Whole, Found, refused, accepted, path_at, known, on_path}
use Rattle.paths_rules.specs.Table.{on_all, insert, ping, multipath_on, timer}
use Rattle.paths_rules.specs.Well.{well}

-- a call that reads one path: get, local_addr, remote_addr, state, validated, active, path_chal_initiated, need_send_validation_frames,
-- need_expand_padding_frames, cmp_anti_ampl_limit
pub data Read : Type 0 where
  Get : Read
  LocalAddr : Read
  RemoteAddr : Read
  State : Read
  Validated : Read
  Active : Read
  Initiated : Read
  NeedsFrames : Read
  NeedsPadding : Read
  Allowed : (wish : ℕ) → Read

-- a call on one path: initiate_path_chal, pop_recv_chal, on_path_chal_received, on_path_chal_sent, on_path_resp_received, inc_anti_ampl_limit,
-- dec_anti_ampl_limit, set_scid_seq, set_dcid_seq, set_active, mark_verified, or a read
pub data Act : Type 0 where
  Initiate : Act
  Pop : Act
  Receive : (token : ℕ) → Act
  Send : (token size now : ℕ) → Act
  Respond : (token now : ℕ) → Act
  Credit : (length : ℕ) → Act
  Charge : (length : ℕ) → Act
  SetScid : (sequence : Option ℕ) → Act
  SetDcid : (sequence : Option ℕ) → Act
  SetActive : (flag : Bool) → Act
  Verify : Act
  Look : Read → Act

-- a call that reads the table: len, get_path_id, get_active, min_path_chal_timer
pub data Survey : Type 0 where
  Len : Survey
  IdOf : (pair : FourTuple) → Survey
  GetActive : Survey
  Timer : Survey

-- a call on the path of that id; insert_path, on_path_chal_timeout, mark_ping, enable_multipath, or a read of the table
pub data Call : Type 0 where
  On : (path : ℕ) → Act → Call
  Insert : (pair : FourTuple) (datagram : ℕ) → Call
  Timeout : (now : ℕ) → Call
  Ping : (pair : Option FourTuple) → Call
  Multipath : Call
  Ask : Survey → Call

-- ---- a call on one path: what it does to the path, when it is refused, what it answers

-- credit and charge act only on a server
abbrev pub effect : Table → Act → Path → Path
effect t Initiate x = with_ask true x
effect t Pop x = pop x
effect t (Receive d) x = receive d x
effect t (Send d size now) x = send d size now x
effect t (Respond d now) x = respond d t.multipath x
effect t (Credit n) x = cond t.server (gain t.factor n x) x
effect t (Charge n) x = cond t.server (spend n x) x
effect t (SetScid o) x = with_scid_of o x
effect t (SetDcid o) x = with_dcid_of o x
effect t (SetActive b) x = with_active_of b x
effect t Verify x = with_verified true x
effect t (Look r) x = x

-- 2: unknown
abbrev pub unless_known : ℕ → Table → ℕ
unless_known q t = cond (known q t) 0 2

-- 2: unknown; 8: the lost count above 32, or the deadline past 2^63-1; 6: sixteen sent challenges stand
abbrev pub send_refusal : ℕ → ℕ → Table → ℕ
send_refusal q now t =
    cond (not (known q t)) 2
    (cond (ltb max_shift (path_at q t).lost || ltb max_moment (loss_time now (path_at q t).lost)) 8
    (cond (leb max_path_chals_sent (length (path_at q t).sent)) 6 0))

-- an allowance is answered on an unknown id too
abbrev pub read_refusal : ℕ → Table → Read → ℕ
read_refusal q t Get = unless_known q t
read_refusal q t LocalAddr = unless_known q t
read_refusal q t RemoteAddr = unless_known q t
read_refusal q t State = unless_known q t
read_refusal q t Validated = unless_known q t
read_refusal q t Active = unless_known q t
read_refusal q t Initiated = unless_known q t
read_refusal q t NeedsFrames = unless_known q t
read_refusal q t NeedsPadding = unless_known q t
read_refusal q t (Allowed wish) = 0

-- a received challenge, a response, a credit and a charge are accepted on an unknown id, and change nothing
abbrev pub refusal : Table → ℕ → Act → ℕ
refusal t q Initiate = unless_known q t
refusal t q Pop = unless_known q t
refusal t q (Receive d) = 0
refusal t q (Send d size now) = send_refusal q now t
refusal t q (Respond d now) = 0
refusal t q (Credit n) = 0
refusal t q (Charge n) = 0
refusal t q (SetScid o) = unless_known q t
refusal t q (SetDcid o) = unless_known q t
refusal t q (SetActive b) = unless_known q t
refusal t q Verify = unless_known q t
refusal t q (Look r) = read_refusal q t r

abbrev pub seen : Table → ℕ → Read → Answer
seen t q Get = Whole (path_at q t)
seen t q LocalAddr = Place (path_at q t).pair.local
seen t q RemoteAddr = Place (path_at q t).pair.remote
seen t q State = Number (path_at q t).rank
seen t q Validated = Flag (validated (path_at q t))
seen t q Active = Flag (in_use (path_at q t))
seen t q Initiated = Flag (path_at q t).ask
seen t q NeedsFrames = Flag (needs_frames t.server (path_at q t))
seen t q NeedsPadding = Flag (needs_padding t.server (path_at q t))
seen t q (Allowed wish) = Number (cond (known q t) (allowed t.server wish (path_at q t)) wish)

abbrev pub answer : Table → ℕ → Act → Answer
answer t q Initiate = Nothing
answer t q Pop = Maybe (front (path_at q t).received)
answer t q (Receive d) = Nothing
answer t q (Send d size now) = Nothing
answer t q (Respond d now) = cond (known q t) (Responded (validates d (path_at q t)) (matched d now (path_at q t))) (Responded false [])
answer t q (Credit n) = Nothing
answer t q (Charge n) = Nothing
answer t q (SetScid o) = Nothing
answer t q (SetDcid o) = Nothing
answer t q (SetActive b) = Nothing
answer t q Verify = Nothing
answer t q (Look r) = seen t q r

abbrev pub act : Table → ℕ → Act → Out
act t q a = cond (eqb (refusal t q a) 0) (accepted (answer t q a) (on_path q (effect t a) t)) (refused (refusal t q a) t)

-- ---- a call that reads the table

-- 2: no path has the active flag
abbrev pub active_out : Option ℕ → Table → Out
active_out none t = refused 2 t
active_out (some i) t = accepted (Found i (path_at i t)) t

abbrev pub survey : Table → Survey → Out
survey t Len = accepted (Number (length t.paths)) t
survey t (IdOf a) = accepted (Maybe (first_with (listed_as a) t.paths)) t
survey t GetActive = active_out (first_with flagged t.paths) t
survey t Timer = accepted (Maybe (timer t.paths)) t

-- ---- any call

-- the arguments have their forms
abbrev pub is_moment : ℕ → Bool
is_moment now = leb now max_moment

abbrev pub act_formed : Act → Bool
act_formed Initiate = true
act_formed Pop = true
act_formed (Receive d) = true
act_formed (Send d size now) = is_moment now
act_formed (Respond d now) = is_moment now
act_formed (Credit n) = true
act_formed (Charge n) = true
act_formed (SetScid o) = true
act_formed (SetDcid o) = true
act_formed (SetActive b) = true
act_formed Verify = true
act_formed (Look r) = true

abbrev pub survey_formed : Survey → Bool
survey_formed Len = true
survey_formed (IdOf a) = pair_formed_of a
survey_formed GetActive = true
survey_formed Timer = true

abbrev pub call_formed : Call → Bool
call_formed (On q a) = act_formed a
call_formed (Insert a m) = pair_formed_of a
call_formed (Timeout now) = is_moment now
call_formed (Ping o) = maybe o true pair_formed_of
call_formed Multipath = true
call_formed (Ask s) = survey_formed s

abbrev pub step : Table → Call → Out
step t (On q a) = act t q a
step t (Insert a m) = insert a m t
step t (Timeout now) = accepted Nothing (on_all (timeout now) t)
step t (Ping o) = ping o t
step t Multipath = accepted Nothing (multipath_on t)
step t (Ask s) = survey t s

-- 1 comes first: an argument not of its form, or a table not well formed
abbrev pub apply : Table → Call → Out
apply t c = cond (well t && call_formed c) (step t c) (refused 1 t)

-- the table after a call, and after a run of calls
abbrev pub after : Table → Call → Table
after t c = (apply t c).table

abbrev pub run : Table → List Call → Table
run t [] = t
run t (c ∷ cs) = run (after t c) cs
