-- How many tries settling takes: twice the number of the next try, plus what is left to do, does not rise.
use Rattle.std.proofs.Common.{◌≡◌, ℕ, zero, suc, ◌+◌, ◌*◌, ◌<◌, ◌≤◌, arith}
use Rattle.std.proofs.lemmas.Nat.{mul-le}

-- what is left to do when fewer wait
squares : (t u : ℕ) → t + 1 ≤ u → t * t + t + u ≤ u * u
squares t u h =
    let first : (t + 1) * u ≤ u * u = mul-le (t + 1) u u u h (omega arith) in
    let second : t * (t + 1) ≤ t * u = mul-le t (t + 1) t u (omega arith) h in
    omega (arith, first, second)

-- at least itself
square : (t : ℕ) → t ≤ t * t
square zero = omega arith
square (suc t) = omega (arith, mul-le (t + 1) 1 (t + 1) (t + 1) (omega arith) (omega arith))

module _ (number most left all : ℕ) (few : number + number + (left + left) + all * all ≤ most + all) where
  -- one is dropped
  pub few_dropped : (left' all' : ℕ) → left' + 1 ≡ left → all' + 1 ≤ all → number + number + (left' + left') + all' * all' ≤ most + all'
  few_dropped left' all' one fewer = omega (arith, few, one, squares all' all fewer)

  -- one is blocked
  pub few_blocked : (left' : ℕ) → left' + 1 ≡ left → (number + 1) + (number + 1) + (left' + left') + all * all ≤ most + all
  few_blocked left' one = omega (arith, few, one)

  -- one is done
  pub few_done : (left' all' : ℕ) → left' + 1 ≡ left → all' + 1 ≤ all → (number + 1) + (number + 1) + (left' + left') + all' * all' ≤ most + all'
  few_done left' all' one fewer = omega (arith, few, one, squares all' all fewer)

  -- one is done, and all that are left are tried again
  pub few_again : (all' : ℕ) → 1 ≤ left → all' + 1 ≤ all → (number + 1) + (number + 1) + (all' + all') + all' * all' ≤ most + all'
  few_again all' some fewer = omega (arith, few, some, squares all' all fewer)

-- what is left to do falls
pub falls_dropped : (left all left' all' : ℕ) → left' + 1 ≡ left → all' + 1 ≤ all → left' + all' * all' < left + all * all
falls_dropped left all left' all' one fewer = omega (arith, one, squares all' all fewer)

pub falls_again : (left all all' : ℕ) → 1 ≤ left → all' + 1 ≤ all → all' + all' * all' < left + all * all
falls_again left all all' some fewer = omega (arith, some, squares all' all fewer)

-- the number stays small
pub number_below : (number first left all waiting : ℕ) → number + number + (left + left) + all * all ≤ first + first + (waiting + waiting * waiting) + all → first ≤ 2 → waiting ≤ 4096 → number + number ≤ 16785412
number_below number first left all waiting few low most = omega (arith, few, low, most, square all, mul-le waiting waiting 4096 4096 most most)
