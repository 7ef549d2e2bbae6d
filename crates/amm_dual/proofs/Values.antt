-- Amounts at prices: one amount more, one price changed, one token more.
use Rattle.std.proofs.Common.{◌≡◌, ℕ, ◌+◌, ◌*◌, ◌<◌, ◌≤◌, zero, suc, List, [], ◌∷◌, length, take, arith, ap, refl, sym, ◌∙◌, get_or, set}
use Rattle.std.proofs.Math.ListN.{length-set}
use Rattle.amm_dual.specs.Flows.{value_in}

-- nothing of each token
pub value_in-none : (prices amounts : List ℕ) → ((k : ℕ) → k < length amounts → get_or amounts k 0 ≡ 0) → value_in prices amounts ≡ 0
value_in-none [] amounts none = refl
value_in-none (p ∷ prices) [] none = refl
value_in-none (p ∷ prices) (a ∷ amounts) none =
    let here : p * a ≡ p * 0 = ap (λ (n : ℕ). p * n) (none 0 (omega arith)) in
    let rest = value_in-none prices amounts (λ k below. none (suc k) (omega arith)) in
    omega arith

-- another amount of one token
pub value_in-set : (prices amounts : List ℕ) (j v : ℕ) → j < length amounts → length prices ≡ length amounts →
    value_in prices (set amounts j v) + get_or prices j 0 * get_or amounts j 0 ≡ value_in prices amounts + get_or prices j 0 * v
value_in-set [] amounts j v below many = absurd (omega arith)
value_in-set (p ∷ prices) [] j v below many = absurd (omega arith)
value_in-set (p ∷ prices) (a ∷ amounts) zero v below many = omega arith
value_in-set (p ∷ prices) (a ∷ amounts) (suc j) v below many =
    let rest = value_in-set prices amounts j v (omega arith) (omega arith) in omega arith

-- so much more of one token
pub value_in-add : (prices amounts : List ℕ) (j a : ℕ) → j < length amounts → length prices ≡ length amounts →
    value_in prices (set amounts j (get_or amounts j 0 + a)) ≡ value_in prices amounts + get_or prices j 0 * a
value_in-add prices amounts j a below many = let m = value_in-set prices amounts j (get_or amounts j 0 + a) below many in omega arith

-- another price of one token
pub value_in-reprice : (prices amounts : List ℕ) (j v : ℕ) → j < length prices → length prices ≡ length amounts →
    value_in (set prices j v) amounts + get_or prices j 0 * get_or amounts j 0 ≡ value_in prices amounts + v * get_or amounts j 0
value_in-reprice [] amounts j v below many = absurd (omega arith)
value_in-reprice (p ∷ prices) [] j v below many = absurd (omega arith)
value_in-reprice (p ∷ prices) (a ∷ amounts) zero v below many = omega arith
value_in-reprice (p ∷ prices) (a ∷ amounts) (suc j) v below many =
    let rest = value_in-reprice prices amounts j v (omega arith) (omega arith) in omega arith

-- one token more
pub value_in-more : (prices amounts : List ℕ) (j : ℕ) → j < length prices → length prices ≡ length amounts →
    value_in (take (j + 1) prices) (take (j + 1) amounts) ≡ value_in (take j prices) (take j amounts) + get_or prices j 0 * get_or amounts j 0
value_in-more [] amounts j below many = absurd (omega arith)
value_in-more (p ∷ prices) [] j below many = absurd (omega arith)
value_in-more (p ∷ prices) (a ∷ amounts) zero below many = omega arith
value_in-more (p ∷ prices) (a ∷ amounts) (suc j) below many =
    let rest = value_in-more prices amounts j (omega arith) (omega arith) in
    let next : suc j + 1 ≡ suc (j + 1) = omega arith in
    rw next (omega arith)

-- so much more of one token and of another
pub value_in-add-two : (prices amounts : List ℕ) (i j a b : ℕ) → i < length amounts → j < length amounts → length prices ≡ length amounts →
    value_in prices (set (set amounts i (get_or amounts i 0 + a)) j (get_or (set amounts i (get_or amounts i 0 + a)) j 0 + b))
    ≡ value_in prices amounts + get_or prices i 0 * a + get_or prices j 0 * b
value_in-add-two prices amounts i j a b below also many =
    let middle = set amounts i (get_or amounts i 0 + a) in
    let long : length middle ≡ length amounts = length-set amounts i (get_or amounts i 0 + a) in
    let one = value_in-add prices amounts i a below many in
    let two = value_in-add prices middle j b (rw long also) (many ∙ sym long) in
    omega (arith, one, two)

-- the prices of two tokens changed, one after the other
pub value_in-after : (prices amounts : List ℕ) (i j u v old middle value half last : ℕ) → i < length prices → j < length prices → length prices ≡ length amounts →
    old ≡ get_or prices i 0 → middle ≡ get_or (set prices i u) j 0 → value ≡ value_in prices amounts →
    half + old * get_or amounts i 0 ≡ value + u * get_or amounts i 0 → last + middle * get_or amounts j 0 ≡ half + v * get_or amounts j 0 →
    (half ≡ value_in (set prices i u) amounts) × (last ≡ value_in (set (set prices i u) j v) amounts)
value_in-after prices amounts i j u v old middle value half last below also many old-is middle-is value-is first second =
    let long : length (set prices i u) ≡ length prices = length-set prices i u in
    let one = value_in-reprice prices amounts i u below many in
    let two = value_in-reprice (set prices i u) amounts j v (rw long also) (long ∙ many) in
    let same : old * get_or amounts i 0 ≡ get_or prices i 0 * get_or amounts i 0 = ap (λ (n : ℕ). n * get_or amounts i 0) old-is in
    let also-same : middle * get_or amounts j 0 ≡ get_or (set prices i u) j 0 * get_or amounts j 0 = ap (λ (n : ℕ). n * get_or amounts j 0) middle-is in
    let half-is : half ≡ value_in (set prices i u) amounts = omega (arith, one, same, value-is, first) in
    (half-is, omega (arith, two, also-same, half-is, second))

-- what an amount is worth is in the value, where its price is another
pub value_in-covers : (prices amounts : List ℕ) (i u old value : ℕ) → i < length prices → length prices ≡ length amounts → old ≡ get_or prices i 0 → value ≡ value_in prices amounts →
    old * get_or amounts i 0 ≤ value + u * get_or amounts i 0
value_in-covers prices amounts i u old value below many old-is value-is =
    let one = value_in-reprice prices amounts i u below many in
    let same : old * get_or amounts i 0 ≡ get_or prices i 0 * get_or amounts i 0 = ap (λ (n : ℕ). n * get_or amounts i 0) old-is in
    omega (arith, one, same, value-is)

pub value_in-covers-next : (prices amounts : List ℕ) (i j u v old middle value half : ℕ) → i < length prices → j < length prices → length prices ≡ length amounts →
    old ≡ get_or prices i 0 → middle ≡ get_or (set prices i u) j 0 → value ≡ value_in prices amounts → half + old * get_or amounts i 0 ≡ value + u * get_or amounts i 0 →
    middle * get_or amounts j 0 ≤ half + v * get_or amounts j 0
value_in-covers-next prices amounts i j u v old middle value half below also many old-is middle-is value-is first =
    let long : length (set prices i u) ≡ length prices = length-set prices i u in
    let one = value_in-reprice prices amounts i u below many in
    let same : old * get_or amounts i 0 ≡ get_or prices i 0 * get_or amounts i 0 = ap (λ (n : ℕ). n * get_or amounts i 0) old-is in
    value_in-covers (set prices i u) amounts j v middle half (rw long also) (long ∙ many) middle-is (omega (arith, one, same, value-is, first))
