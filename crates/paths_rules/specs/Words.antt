-- The words that examples and tables of rows share: pairs of addresses, and a server with path limit 3 and factor 3.
use Rattle.std.specs.Prelude.{ℕ, [], ◌∷◌, ◌++◌, true, replicate}
use Rattle.values.specs.declared.address.Address.{Address}
use Rattle.values.specs.declared.address.FourTuple.{FourTuple}
use Rattle.values.specs.Limits.{kind_v4, kind_v6}
use Rattle.paths_rules.specs.Table.{Table, fresh}
use Rattle.paths_rules.specs.Calls.{Insert, run}

-- 10.0.0.n, port 443; the pairs of the trials differ in the remote address
abbrev pub v4 : ℕ → Address
v4 n = record { ip = 10 ∷ 0 ∷ 0 ∷ n ∷ replicate 12 0; flow = 0; scope = 0; port = 443; kind = kind_v4 }

abbrev pub v6 : ℕ → Address
v6 n = record { ip = replicate 15 1 ++ (n ∷ []); flow = 5; scope = 6; port = 443; kind = kind_v6 }

abbrev pub pair_to : ℕ → FourTuple
pair_to n = record { local = v4 1; remote = v4 n }

abbrev pub pair_a : FourTuple
pair_a = pair_to 2

abbrev pub pair_b : FourTuple
pair_b = pair_to 3

abbrev pub pair_c : FourTuple
pair_c = pair_to 4

-- a server, and the same with path 1 inserted
abbrev pub server : Table
server = fresh pair_a 1200 3 3 true

abbrev pub two : Table
two = run server (Insert pair_b 1200 ∷ [])
