-- Texts that are written one after the other are one text.
use mathlib.Core.Path.{◌≡◌, refl, sym, ◌∙◌}
use mathlib.Core.List.{List, [], ◌∷◌, ◌++◌}
use Prim.Native.Nat.{ℕ, suc, ◌+◌, ◌-◌, ◌≤◌}
use native.Mathlib.Omega.{arith}
use lib.ListN.{length, length-append}
use lib.Seq.{sets, sets-eq, take_all}
use borrow.Rule.Slice.PartMut.{put_mid}
use Rattle.std.proofs.lemmas.Slice.{put_mid-paste}
use Rattle.text.specs.Written.{Room, Writes}
use Rattle.text.specs.declared.page.Page.{Page}

sets_then : (l : List ℕ) (i : ℕ) (s t : List ℕ) → sets (sets l i s) (i + length s) t ≡ sets l i (s ++ t)
sets_then l i [] t = let e : i + 0 ≡ i = omega arith in rw e
sets_then l i (a ∷ s) t = let e : i + suc (length s) ≡ suc i + length s = omega arith in rw e (sets_then _ (suc i) s t)

-- where two texts fit, the first does
pub room_here : {page : Page} {s : List ℕ} (t : List ℕ) → Room page (s ++ t) → Room page s
room_here {s = s} t r = record { fits = omega (arith, r.fits, length-append s t) }

-- and after it the second
pub room_then : {s t : List ℕ} {old new : Page} → Writes s old new → Room old (s ++ t) → Room new t
room_then {s} {t} w r =
    record { fits = omega (arith, w.size, w.ends, r.fits, length-append s t) }

pub then : {s t : List ℕ} {old between new : Page} → Writes s old between → Writes t between new → Writes (s ++ t) old new
then {s} {t} {old} w x =
    record {
      same = x.same ∙ w.same;
      size = x.size ∙ w.size;
      ends = omega (arith, w.ends, x.ends, length-append s t);
      holds = x.holds ∙ rw (w.holds, w.ends) (sets_then old.out.now old.at s t);
    }

pub nothing : {page : Page} → Writes [] page page
nothing {page} = record { same = refl; size = refl; ends = omega arith; holds = refl }

-- a word that is copied into its place
pub copied : (l w s : List ℕ) (i : ℕ) → i + length w ≤ length l → s ≡ w → put_mid i (i + length w - i) l s ≡ sets l i w
copied l w s i h e =
    put_mid-paste i (i + length w - i) l s w (length w) e (omega arith) refl ∙ rw (take_all (length w) w (omega arith)) (sym (sets-eq w l i h))
