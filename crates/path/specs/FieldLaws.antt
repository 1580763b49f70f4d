-- A path's state is the one of its path, and what is asked of it that its lists say.
use Rattle.std.specs.Prelude.{ℕ, ◌≡◌, refl, List, [], ◌∷◌, Bool, true, not, ◌&&◌, ◌||◌, eqb, ltb, length}
use Rattle.std.proofs.Common.{sym, ap, ◌∙◌, arith, ne_eqb}
use Rattle.lists.specs.Defs.{empty}
use Rattle.values.specs.Limits.{min_path_probe_size}
use Rattle.values.specs.declared.address.FourTuple.{FourTuple}
use Rattle.challenges.specs.Challenges.{waiting}
use Rattle.challenges.specs.Laws.{waiting_long}
use Rattle.paths_state.specs.Formed.{path_formed_of}
use Rattle.paths_state.specs.Laws.{path_facts}
use Rattle.paths_state.specs.declared.state.Path as S
use Rattle.paths_rules.specs.Path.{needs_frames, unlist}
use Rattle.path.specs.Reading.{path_view, path_of}
use Rattle.path.specs.ReadingLaws.{path_is}
use Rattle.path.specs.Puts.{put_listed}

empty_is : {A : Type 0} (l : List A) → eqb (length l) 0 ≡ empty l
empty_is [] = refl
empty_is (y ∷ l) = ne_eqb (length (y ∷ l)) 0 (λ q. omega (arith, q))

pub frames_is : (x : S.Path) → path_formed_of x ≡ true → (server : Bool)
    → (not (server && ltb x.anti_ampl_limit min_path_probe_size) && (x.need_send_challenge || not (eqb x.recv_chals.count 0))) ≡ needs_frames server (path_view x)
frames_is x w server =
    ap (λ (b : Bool). not (server && ltb x.anti_ampl_limit min_path_probe_size) && (x.need_send_challenge || not b))
    (ap (λ (n : ℕ). eqb n 0) (sym (waiting_long x.recv_chals (path_facts x w).received)) ∙ empty_is (waiting x.recv_chals))

module _ (x : S.Path) (w : path_formed_of x ≡ true) where
  pub back : x ≡ path_of (path_view x)
  back = sym (path_is x w)

  pub unlisted_is : (a : FourTuple) (listed : Bool) → listed ≡ (unlist a (path_view x)).listed → put_listed listed x ≡ path_of (unlist a (path_view x))
  unlisted_is a listed e = ap (λ (b : Bool). put_listed b x) e ∙ ap (put_listed (unlist a (path_view x)).listed) back
