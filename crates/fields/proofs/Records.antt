-- Records of one size, one after another: where they stand, and that a value is made of its records.
use mathlib.Core.Path.{◌≡◌, sym, ◌∙◌}
use mathlib.Core.List.{List}
use mathlib.Core.Logic.{⊎_elim}
use Prim.Native.Nat.{ℕ, zero, suc, ◌+◌, ◌*◌, ◌≤◌, ◌<◌}
use native.Mathlib.Nat.{mul-suc, mul-le-mul_left}
use native.Mathlib.Omega.{arith}
use lib.ListN.{length, get_or, take, drop, length-append, get_or-append}
use lib.Seq.{take-add, get_or-append-add}
use Rattle.lists.proofs.Tests.{or_lt}
use Rattle.fields.specs.Bytes.{number_at}
use Rattle.fields.specs.Fields.{records}
use Rattle.fields.proofs.BigEndian.{number_same}

module _ (r : ℕ → List ℕ) (s : ℕ) (long : (i : ℕ) → length (r i) ≡ s) where
  pub length-records : (n : ℕ) → length (records r n) ≡ s * n
  unfolding records
  length-records zero = omega arith
  length-records (suc n) = simp length-append (omega (arith, length-records n, long n, mul-suc s n))

  pub record_at : (n i k : ℕ) → i < n → k < s → get_or (records r n) (s * i + k) 0 ≡ get_or (r i) k 0
  unfolding records
  record_at zero i k h l = let b : ⊥ = omega arith in absurd b
  record_at (suc n) i k h l =
      ⊎_elim
      (λ g.
      let m : s * suc i ≤ s * n = mul-le-mul_left s g in
      get_or-append (records r n) (r n) 0 (s * i + k) (omega (arith, m, mul-suc s i, length-records n)) ∙ record_at n i k g l)
      (λ g.
      let e : i ≡ n = omega arith in
      rw (e, sym (length-records n)) (get_or-append-add (records r n) (r n) k 0))
      (or_lt i n)

  pub number-record : (w n i k : ℕ) → i < n → k + w ≤ s → number_at w (records r n) (s * i + k) ≡ number_at w (r i) k
  number-record w n i k h l =
      number_same w (records r n) (r i) (s * i + k) k
      (λ j g. let e : s * i + k + j ≡ s * i + (k + j) = omega arith in rw e (record_at n i (k + j) h (omega arith)))

-- records that are those of v make v up
pub records_of : (r : ℕ → List ℕ) (s n : ℕ) (v : List ℕ) → ((i : ℕ) → i < n → r i ≡ take s (drop (s * i) v)) → records r n ≡ take (s * n) v
unfolding records
records_of r s zero v h = let e : s * 0 ≡ 0 = omega arith in rw e
records_of r s (suc n) v h =
    rw (records_of r s n v (λ i l. h i (omega arith)), h n (omega arith), mul-suc, take-add)
