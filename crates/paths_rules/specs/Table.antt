-- docs/RULES.md, "Paths", "Challenges", "Pings and multipath": the path table, insertion, and the calls that name no path by its id.
use Rattle.std.specs.Prelude.{ℕ, List, [], ◌∷◌, ◌++◌, map, Bool, true, false, cond, ◌&&◌, length, get_or, set, leb, ltb}
use Rattle.std.proofs.Math.Option.{Option, none, some}
use Rattle.lists.specs.Defs.{first_with, least, somes}
use Rattle.values.specs.declared.address.Address.{Address}
use Rattle.values.specs.declared.address.FourTuple.{FourTuple}
use Rattle.values.specs.Address.{pair_formed_of}
use Rattle.values.specs.Limits.{max_paths_limit}
use Rattle.paths_rules.specs.State.{Path}
use Rattle.paths_rules.specs.With.{with_ping}
use Rattle.paths_rules.specs.Path.{new_path_of, first_path_of, zero_path, unused, in_use, flagged, listed_as, unlist, due}

-- the ids are the places in the list
pub record Table : Type 0 where
  pub paths : List Path
  pub limit : ℕ
  pub factor : ℕ
  pub multipath : Bool
  pub server : Bool

-- what a call answers beside the refusal's number; only an insertion answers `Inserted`
pub data Answer : Type 0 where
  Nothing : Answer
  -- insert_path: the id
  Inserted : ℕ → Answer
  -- on_path_resp_received: whether the path is now Validated, and a span for each match
  Responded : Bool → List ℕ → Answer
  -- len, state, cmp_anti_ampl_limit
  Number : ℕ → Answer
  -- validated, active, path_chal_initiated, need_send_validation_frames, need_expand_padding_frames
  Flag : Bool → Answer
  -- pop_recv_chal, get_path_id, min_path_chal_timer
  Maybe : Option ℕ → Answer
  -- local_addr, remote_addr
  Place : Address → Answer
  -- get
  Whole : Path → Answer
  -- get_active: the id and the path
  Found : ℕ → Path → Answer

-- refusal 0 is "accepted"
pub record Out : Type 0 where
  pub refusal : ℕ
  pub answer : Answer
  pub table : Table

abbrev pub refused : ℕ → Table → Out
refused n t = record { refusal = n; answer = Nothing; table = t }

abbrev pub accepted : Answer → Table → Out
accepted a t = record { refusal = 0; answer = a; table = t }

-- ---- the paths of a table

-- the path p
abbrev pub path_at : ℕ → Table → Path
path_at p t = get_or t.paths p zero_path

abbrev pub known : ℕ → Table → Bool
known p t = ltb p (length t.paths)

abbrev pub with_paths : List Path → Table → Table
with_paths l t = record { paths = l; limit = t.limit; factor = t.factor; multipath = t.multipath; server = t.server }

-- the path q is changed by f; an unknown id changes nothing
abbrev pub on_path : ℕ → (Path → Path) → Table → Table
on_path q f t = with_paths (set t.paths q (f (path_at q t))) t

abbrev pub on_all : (Path → Path) → Table → Table
on_all f t = with_paths (map f t.paths) t

-- ---- a fresh table

abbrev pub fresh : FourTuple → ℕ → ℕ → ℕ → Bool → Table
fresh a m limit factor server = record { paths = first_path_of a m ∷ []; limit = limit; factor = factor; multipath = false; server = server }

-- a refused fresh call gives an all-zero state
abbrev pub zero_table : Table
zero_table = record { paths = []; limit = 0; factor = 0; multipath = false; server = false }

abbrev pub fresh_formed : FourTuple → ℕ → Bool
fresh_formed a limit = leb 1 limit && leb limit max_paths_limit && pair_formed_of a

abbrev pub fresh_call : FourTuple → ℕ → ℕ → ℕ → Bool → Out
fresh_call a m limit factor server = cond (fresh_formed a limit) (accepted Nothing (fresh a m limit factor server)) (refused 1 zero_table)

-- ---- insertion

-- below the limit the new path goes to the end, and takes over its pair's listing
abbrev pub appended : FourTuple → ℕ → Table → Table
appended a m t = with_paths (map (unlist a) t.paths ++ (new_path_of a m ∷ [])) t

-- at the limit the path i is evicted: the listing of its pair is removed, and its id is the new path's
abbrev pub replaced : ℕ → FourTuple → ℕ → Table → Table
replaced i a m t = with_paths (set (map (unlist a) (map (unlist (path_at i t).pair) t.paths)) i (new_path_of a m)) t

-- 5: none is unused
abbrev pub evict : Option ℕ → FourTuple → ℕ → Table → Out
evict none a m t = refused 5 t
evict (some i) a m t = accepted (Inserted i) (replaced i a m t)

abbrev pub insert : FourTuple → ℕ → Table → Out
insert a m t =
    cond (ltb (length t.paths) t.limit)
    (accepted (Inserted (length t.paths)) (appended a m t))
    (evict (first_with unused t.paths) a m t)

-- ---- pings and multipath

-- a ping on the path found; where none is found, n: 2, or 0 for a success that changes nothing
abbrev pub ping_at : ℕ → Option ℕ → Table → Out
ping_at n none t = refused n t
ping_at n (some i) t = accepted Nothing (on_path i (with_ping true) t)

abbrev pub ping_in_use_of : Path → Path
ping_in_use_of x = cond (in_use x) (with_ping true x) x

-- multipath on. With a pair: the listed path, if any. Without: every path with flag and destination sequence
abbrev pub ping_on : Option FourTuple → Table → Out
ping_on none t = accepted Nothing (on_all ping_in_use_of t)
ping_on (some a) t = ping_at 0 (first_with (listed_as a) t.paths) t

-- multipath off: the first path with the flag, whatever the pair; 2 if there is none
abbrev pub ping : Option FourTuple → Table → Out
ping o t = cond t.multipath (ping_on o t) (ping_at 2 (first_with flagged t.paths) t)

abbrev pub multipath_on : Table → Table
multipath_on t = record { paths = t.paths; limit = t.limit; factor = t.factor; multipath = true; server = t.server }

-- ---- the path timer

-- the least front deadline over all paths, whatever their state
abbrev pub timer : List Path → Option ℕ
timer l = least (somes (map due l))
