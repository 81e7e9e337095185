-- Worked versions: which of two is newer.
use Rattle.std.proofs.Common.{◌≡◌, ℕ, List, Bool, true, false, Some, None, refl, codes}
use Rattle.ov_specs.specs.schema.Newer.{is_newer}

-- the first version is newer than the second
abbrev newer : List ℕ → List ℕ → Bool
newer a b = is_newer (Some a) (Some b)

-- ---- by the numbers

pub ten_is_after_nine : newer (codes "1.10.0") (codes "1.9.0") ≡ true
ten_is_after_nine = refl

pub nine_is_before_ten : newer (codes "1.9.0") (codes "1.10.0") ≡ false
nine_is_before_ten = refl

pub longer_than_64_bits : newer (codes "1.100000000000000000000.0") (codes "1.99999999999999999999.0") ≡ true
longer_than_64_bits = refl

pub not_itself : newer (codes "1.1.0") (codes "1.1.0") ≡ false
not_itself = refl

-- ---- zeros in front count for nothing

pub leading_zero : newer (codes "01.1.0") (codes "1.1.0") ≡ false
leading_zero = refl

pub no_leading_zero : newer (codes "1.1.0") (codes "01.1.0") ≡ false
no_leading_zero = refl

pub only_zeros : newer (codes "1.1.000") (codes "1.1.0") ≡ false
only_zeros = refl

pub greater_after_a_zero : newer (codes "1.02.0") (codes "1.1.0") ≡ true
greater_after_a_zero = refl

-- ---- the first part that differs decides

pub first_part : newer (codes "2.0.0") (codes "1.9.9") ≡ true
first_part = refl

pub second_part : newer (codes "1.0.9") (codes "1.1.0") ≡ false
second_part = refl

pub last_part : newer (codes "1.1.1") (codes "1.1.0") ≡ true
last_part = refl

-- ---- without a version

pub new_without_version : is_newer None (Some (codes "1.0.0")) ≡ false
new_without_version = refl

pub old_without_version : is_newer (Some (codes "1.1.0")) None ≡ false
old_without_version = refl

pub none_has_a_version : is_newer None None ≡ false
none_has_a_version = refl
