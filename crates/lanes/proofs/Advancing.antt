-- Block after block: what they are filled in from, and what they leave.
use mathlib.Core.Path.{◌≡◌, refl, sym, ap, subst, ◌∙◌}
use mathlib.Core.Logic.{◌≢◌}
use mathlib.Core.List.{List, foldl}
use Prim.Native.Nat.{ℕ, suc, ◌+◌, ◌-◌, ◌*◌, ◌^◌, ◌≤◌, ◌<◌}
use native.Mathlib.Nat.{pow-succ'}
use native.Mathlib.Omega.{arith}
use lib.Count.{ones}
use lib.ListN.{length, get_or, drop, length-append, get_or-append}
use lib.Pow.{pow_mono}
use lib.Seq.{take_all}
use Rattle.lists.specs.Grow.{front}
use Rattle.subsets.specs.Best.{step_count}
use Rattle.lanes.specs.Blocks.{Begun, Blank, Dealt, Deals, Modest, Opened, Short, Within, to_first, to_second}
use Rattle.subsets.specs.Square.{held}
use Rattle.subsets.specs.Subsets.{rising}
use Rattle.subsets.specs.Table.{blank_of, blanks, step_of, steps, steps_of, table_after}
use Rattle.subsets.proofs.Counting.{steps_count}
use Rattle.lanes.proofs.Filled.{within_run, within_small}
use Rattle.subsets.proofs.Filling.{blanks-length, filled_is, from, from_none}
use Rattle.subsets.proofs.Finished.{blank_get}
use Rattle.lanes.proofs.Opening.{low_parts}
use Rattle.subsets.proofs.Runs.{fold_length, run_more, run_other}

-- the blocks before h are filled in and dealt
pub record Advanced (n : ℕ) (ds t₀ : List ℕ) (h : ℕ) (t rows : List ℕ) : Type 0 where
  pub some : 0 < h
  pub rest : foldl (step_of (held ds)) t (from n (8 * h)) ≡ foldl (step_of (held ds)) t₀ (from n 8)
  pub within : Within (8 * h) t
  pub blank : Blank n (8 * h) t
  pub modest : Modest rows
  pub dealt : Dealt t h rows

dealt_kept : (t t2 rows : List ℕ) (h : ℕ) → ((j : ℕ) → j < 8 * h → get_or t2 j 0 ≡ get_or t j 0) → Dealt t h rows → Dealt t2 h rows
dealt_kept t t2 rows h same d =
    record {
      first = λ g k p q b. d.first g k p q b ∙ sym (same (8 * g + get_or to_first k 0) (omega (arith, (low_parts k).0)));
      second = λ g k p q b. d.second g k p q b ∙ sym (same (8 * g + get_or to_second k 0) (omega (arith, (low_parts k).1)));
    }

-- how many blocks n sinks have
pub eight_blocks : (n size : ℕ) → 3 ≤ n → size ≡ 2 ^ (n - 3) → 8 * size ≡ 2 ^ n
eight_blocks n size h e =
    let m : suc (suc (suc (n - 3))) ≡ n = omega arith in
    omega (arith, e, ap (λ (k : ℕ). 2 ^ k) m, pow-succ' 2 (n - 3), pow-succ' 2 (suc (n - 3)), pow-succ' 2 (suc (suc (n - 3))))

module _ (n : ℕ) (ds t₀ : List ℕ) (b : Begun n ds t₀) where
  pub advanced_start : (rows : List ℕ) → Modest rows → Advanced n ds t₀ 1 t₀ rows
  advanced_start rows m =
      record {
        some = omega arith;
        rest = refl;
        within = b.within;
        blank = b.blank;
        modest = m;
        dealt = record { first = λ h k p q l. absurd (omega arith); second = λ h k p q l. absurd (omega arith) };
      }

  module _ (h : ℕ) (t rows : List ℕ) (size : length t ≡ length t₀) (low : 8 * h + 8 ≤ 2 ^ n) (a : Advanced n ds t₀ h t rows) where
    few : 2 ^ n ≤ 4096
    few = pow_mono {i = n} {j = 12} b.few

    pub advanced_opens : 56 * h ≤ length rows → Opened ds t rows h
    advanced_opens room =
        record {
          block =
              record {
                some = a.some;
                few = omega (arith, few);
                room = omega (arith, size, b.room);
                short = λ k q. b.short (8 * h + k) (omega arith);
                within = λ i q. a.within i (omega arith);
                blank = λ k p q. a.blank (8 * h + k) (omega arith) (omega arith);
              };
          room_rows = room;
          modest = a.modest;
          dealt = a.dealt;
        }

    pub advanced_more : (t2 rows2 : List ℕ) → t2 ≡ foldl (step_of (held ds)) t (steps_of (rising 8 (8 * h))) → Deals t2 h rows rows2 → Advanced n ds t₀ (h + 1) t2 rows2
    advanced_more t2 rows2 e d =
        let same : (j : ℕ) → ((m : ℕ) → 8 * h ≤ m → m < 8 * h + 8 → j ≢ m) → get_or t2 j 0 ≡ get_or t j 0 = λ j q. ap (λ (u : List ℕ). get_or u j 0) e ∙ run_other (held ds) 8 (8 * h) t j q in
        let w : Within (8 * h + 8) t2 =
        subst (Within (8 * h + 8)) (sym e)
        (within_run (held ds) 8 (8 * h) t (omega (arith, a.some)) (omega (arith, few)) (omega (arith, size, b.room)) (λ m p q. b.short m (omega arith)) a.within (λ m p q. a.blank m p (omega arith))) in
        record {
          some = omega arith;
          rest = run_more (held ds) 8 (2 ^ n - 8 * (h + 1)) (2 ^ n - 8 * h) (8 * h) (8 * (h + 1)) t t2 (omega arith) (omega arith) e ∙ a.rest;
          within = λ i q. w i (omega arith);
          blank = λ i p q. same i (λ m x y. omega arith) ∙ a.blank i (omega arith) q;
          modest = d.modest a.modest (λ l q. omega (arith, within_small (8 * h + 8) t2 (8 * h + l) w (omega arith) (omega (arith, few))));
          dealt = d.here (dealt_kept t t2 rows h (λ j q. same j (λ m x y. omega arith)) a.dealt);
        }

pub advanced_end : (n : ℕ) (ds t₀ t rows : List ℕ) (h : ℕ) → 8 * h ≡ 2 ^ n → Advanced n ds t₀ h t rows → t ≡ foldl (step_of (held ds)) t₀ (steps_of (rising (2 ^ n - 8) 8))
advanced_end n ds t₀ t rows h e a = ap (foldl (step_of (held ds)) t) (sym (from_none n (8 * h) (omega arith))) ∙ a.rest

-- ---- the first block

first_run : (δ : ℕ → ℕ) (t₀ t : List ℕ) → t ≡ foldl (step_of δ) t₀ (steps 3) → t ≡ foldl (step_of δ) t₀ (steps_of (rising 7 1))
unfolding steps
first_run δ t₀ t e = e

module _ (n : ℕ) (ds u t₀ t : List ℕ) (many : 3 ≤ n) (cleared : t₀ ≡ front (blanks n) u) (first : t ≡ foldl (step_of (held ds)) t₀ (steps 3)) where
  eight : 8 ≤ 2 ^ n
  eight = pow_mono {i = 3} {j = n} many

  room : 2 ^ n ≤ length t₀
  room = omega (arith, ap length cleared, length-append (blanks n) (drop (length (blanks n)) u), blanks-length n)

  fresh : (i : ℕ) → i < 2 ^ n → get_or t₀ i 0 ≡ blank_of i
  fresh i h = ap (λ (l : List ℕ). get_or l i 0) cleared ∙ get_or-append (blanks n) (drop (length (blanks n)) u) 0 i (omega (arith, blanks-length n)) ∙ blank_get n i h

  run : t ≡ foldl (step_of (held ds)) t₀ (steps_of (rising 7 1))
  run = first_run (held ds) t₀ t first

  empty : Within 1 t₀
  unfolding ones
  empty i h = let z : i ≡ 0 = omega arith in omega (arith, ap (λ (j : ℕ). get_or t₀ j 0) z, fresh 0 (omega (arith, eight)))

  pub begun : n ≤ 12 → Short n ds → Begun n ds t
  begun few short =
      record {
        many = many;
        few = few;
        room = omega (arith, room, ap length first, fold_length (held ds) t₀ (steps 3));
        short = short;
        within =
            subst (Within 8) (sym run)
            (within_run (held ds) 7 1 t₀ (omega arith) (omega arith) (omega (arith, eight, room)) (λ m a b. short m (omega (arith, eight))) empty (λ m a b. fresh m (omega (arith, eight))));
        blank = λ i a b. ap (λ (l : List ℕ). get_or l i 0) run ∙ run_other (held ds) 7 1 t₀ i (λ m x y. omega arith) ∙ fresh i b;
      }

  -- and then the others
  pub all_blocks : (t2 : List ℕ) → t2 ≡ foldl (step_of (held ds)) t (steps_of (rising (2 ^ n - 8) 8)) → t2 ≡ foldl (step_of (held ds)) t₀ (steps n)
  unfolding steps
  all_blocks t2 e = e ∙ run_more (held ds) 7 (2 ^ n - 8) (2 ^ n - 1) 1 8 t₀ t (omega (arith, eight)) refl run

-- a blank table after all steps
pub filled_all : (δ : ℕ → ℕ) (n budget : ℕ) (u t₀ t : List ℕ) → step_count n ≤ budget → t₀ ≡ front (blanks n) u → t ≡ foldl (step_of δ) t₀ (steps n) → t ≡ front (table_after δ n budget) u
filled_all δ n budget u t₀ t b e f = filled_is δ n budget u t₀ t e (f ∙ ap (foldl (step_of δ) t₀) (sym (take_all budget (steps n) (omega (arith, b, steps_count n)))))
