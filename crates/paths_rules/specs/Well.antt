-- docs/RULES.md, "Well-formed paths", of the table as a list. (Zeros past the counts and in what is absent concern the state that is read.)
use Rattle.std.specs.Prelude.{ℕ, List, [], ◌∷◌, Bool, not, ◌&&◌, ◌||◌, length, leb, ltb}
use Rattle.lists.specs.Defs.{every, all, pairwise, empty}
use Rattle.values.specs.declared.address.FourTuple.{FourTuple}
use Rattle.values.specs.Address.{pair_formed_of, same_pair}
use Rattle.values.specs.Limits.{max_paths_limit, max_path_chals_recv, max_path_chals_sent, max_lost, max_moment}
use Rattle.paths_rules.specs.State.{Path, Challenge}
use Rattle.paths_rules.specs.Table.{Table}

-- path limit 1..8; 1 to limit paths
abbrev pub bounds : ℕ → ℕ → List Bool
bounds limit count = leb 1 limit ∷ leb limit max_paths_limit ∷ leb 1 count ∷ leb count limit ∷ []

-- a sent challenge: both moments at most 2^63-1
abbrev pub in_time : Challenge → Bool
in_time c = leb c.sent max_moment && leb c.deadline max_moment

-- both addresses have their form; at most 8 received and 16 sent challenges; the lost count at most 33, and at 33 no sent challenge stands; the
-- sent challenges in time
abbrev pub parts : FourTuple → List ℕ → List Challenge → ℕ → List Bool
parts pair received sent lost =
    pair_formed_of pair ∷ leb (length received) max_path_chals_recv ∷ leb (length sent) max_path_chals_sent ∷ leb lost max_lost ∷ (ltb lost max_lost || empty sent) ∷ all in_time sent ∷ []

abbrev pub path_formed_of : Path → Bool
path_formed_of x = every (parts x.pair x.received x.sent x.lost)

-- not both listed with the same pair
abbrev pub apart : Path → Path → Bool
apart x y = not (x.listed && y.listed && same_pair x.pair y.pair)

abbrev pub well : Table → Bool
well t = every (bounds t.limit (length t.paths)) && all path_formed_of t.paths && pairwise apart t.paths
