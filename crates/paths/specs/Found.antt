-- How the search for the path that a call names ends. f: the arguments have their forms.
use Rattle.std.specs.Prelude.{ℕ, ◌≤◌, ◌<◌, ◌≡◌, Bool, true, false, ◌&&◌, get_or}
use Rattle.values.specs.declared.refusals.Refusal.{Refusal}
use Rattle.values.specs.declared.refusals.Refusal.TheVariants.{Malformed, InternalError}
use Rattle.values.specs.Refusals.{number}
use Rattle.paths_state.specs.declared.state.Path.{Path}
use Rattle.paths_state.specs.declared.state.Paths.{Paths}
use Rattle.paths_state.specs.Formed.{well_formed, zero_path}
use Rattle.path.specs.Reading.{path_view}
use Rattle.path.specs.SendLaws as N

-- the path is there
pub record Here (t : Paths) (f : Bool) (id : ℕ) (x : Path) : Type 0 where
  pub well : well_formed t ≡ true
  pub args : f ≡ true
  pub below : id < t.count
  pub is : x ≡ get_or t.items id zero_path

-- the state or an argument has not its form, or no path has the id
pub data Missed (t : Paths) (f : Bool) (id : ℕ) (e : Refusal) : Type 0 where
  unformed : e ≡ Malformed → (well_formed t && f) ≡ false → Missed t f id e
  unknown : e ≡ InternalError → well_formed t ≡ true → f ≡ true → t.count ≤ id → Missed t f id e

-- or no challenge may be sent on the path
pub data Unsent (t : Paths) (f : Bool) (id now : ℕ) (e : Refusal) : Type 0 where
  missed : Missed t f id e → Unsent t f id now e
  barred : (x : Path) → Here t f id x → N.refusal now (path_view x) ≡ number e → Unsent t f id now e
