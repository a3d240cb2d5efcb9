-- Records and fields that are written one after another.
use mathlib.Core.Path.{◌≡◌}
use mathlib.Core.List.{List, ◌∷◌, ◌++◌}
use Prim.Native.Nat.{ℕ, suc, ◌+◌, ◌*◌, ◌≤◌, ◌<◌}
use native.Mathlib.Nat.{mul-suc, mul-le-mul_left}
use native.Mathlib.Numerals.{add-one}
use native.Mathlib.Omega.{arith}
use lib.ListN.{length}
use Rattle.text.specs.Written.{Room, Writes}
use Rattle.text.specs.declared.page.Page.{Page}
use Rattle.text.proofs.Written.{then}
use Rattle.fields.specs.Bytes.{big}
use Rattle.fields.specs.Fields.{field, records}
use Rattle.fields.proofs.Records.{length-records}

module _ (r : ℕ → List ℕ) {i : ℕ} {old new : Page} where
  -- where n records fit, the next one does
  pub record_room : (n : ℕ) (s : ℕ) → ((j : ℕ) → length (r j) ≡ s) → i < n → Room old (records r n) → Writes (records r i) old new → Room new (r i)
  record_room n s long h q w =
      let m : s * suc i ≤ s * n = mul-le-mul_left s h in
      record { fits = omega (arith, w.size, w.ends, q.fits, length-records r s long i, length-records r s long n, long i, mul-suc s i, m) }

  pub record_more : {end : Page} → Writes (records r i) old new → Writes (r i) new end → Writes (records r (i + 1)) old end
  unfolding records
  record_more w x = rw (add-one i) (then w x)

-- a field is its header, then its value
module _ (tag : ℕ) (value : List ℕ) {long : ℕ} (e : length value ≡ long) where
  pub field_parts : {page : Page} → Room page (field tag value) → Room page ((tag ∷ big 2 long) ++ value)
  unfolding field
  field_parts q = rw e at q

  pub field_put : {old mid new : Page} → Writes (tag ∷ big 2 long) old mid → Writes value mid new → Writes (field tag value) old new
  unfolding field
  field_put w x = rw e (then w x)
