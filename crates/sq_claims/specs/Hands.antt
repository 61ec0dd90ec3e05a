-- The rule of the board's word: what it says of what all seats know, and what a step tells.
use Rattle.std.specs.Prelude.{◌≡◌, ℕ, zero, suc, ◌+◌, ◌-◌, ◌^◌, ◌<◌, ◌≤◌, ◌==◌, if◌then◌else◌, List, [], ◌∷◌, ◌++◌, length}
use Rattle.std.specs.List.{AllByRecursion}
use Rattle.std.specs.List.Sorted.{IsStrictlyIncreasing}
use Rattle.atomic_table.specs.Table.{State, Me, Step}
use Rattle.sq_claims.specs.declared.rule.Hand.{Hand}
use Rattle.sq_claims.specs.declared.rule.Plan.{Plan}
use Rattle.sq_claims.specs.Claims.{Place, Turn, total, times}
use Rattle.atomic_table.specs.Seated.{TableId}

abbrev pub hand : Plan → ℕ → List ℕ → List ℕ → Hand
hand plan share claims late = record { plan = plan; share = share; claims = claims; late = late }

-- the seat that a board begins with, which has all shares
abbrev pub first_hand : Plan → Hand
first_hand plan = hand plan plan.passes [] []

-- the seat after it gave one share away, and the seat that took it
abbrev pub left_hand : Hand → Hand
left_hand v = hand v.plan (v.share - 1) v.claims v.late

abbrev pub right_hand : Hand → Hand
right_hand v = hand v.plan 1 [] []

-- a seat that took another in, and what is left of the other
abbrev pub both_hands : Hand → Hand → Hand
both_hands v w = hand v.plan (v.share + w.share) (v.claims ++ w.claims) (v.late ++ w.late)

-- a seat that took a pass in
abbrev pub taken_in : Hand → Turn → Hand
taken_in v p = hand v.plan (v.share + 1) (v.claims ++ p.claims) (v.late ++ p.late)

abbrev pub spent_hand : Hand
spent_hand = hand record { tasks = 0; passes = 0 } 0 [] []

-- one seat: it has a share for each word that it found too late, and one without a share knows nothing
pub record Fits (plan : Plan) (v : Hand) : Type 0 where
  pub plan_is : 0 < v.share → v.plan ≡ plan
  pub bound : length v.late ≤ v.share
  pub idle : v.share ≡ 0 → v.claims ≡ []

-- how often x stands among the numbers below n
abbrev pub once_below : ℕ → ℕ → ℕ
once_below x zero = 0
once_below x (suc n) = (if n == x then 1 else 0) + once_below x n

-- The claims are the numbers below `done`, each once, and the word is past them by the words found too late.
pub record Told (plan : Plan) (word : ℕ) (claims : ℕ → ℕ) (lates : ℕ) : Type 0 where
  pub done : ℕ
  pub word_is : word ≡ done + lates
  pub most : done ≤ plan.tasks
  pub early : done < plan.tasks → lates ≡ 0
  pub once : (x : ℕ) → claims x ≡ once_below x done

-- The rule: there is one word, all seats' claims and late words tell of it, and all shares are the board's passes.
pub record IsKept (plan : Plan) (words : List ℕ) (views : List Hand) : Type 0 where
  pub word : ℕ
  pub words_are : words ≡ word ∷ []
  pub told : Told plan word (λ x. total (λ v. times x v.claims) views) (total (λ v. length v.late) views)
  pub shares : total (λ v. v.share) views ≡ plan.passes
  pub fit : AllByRecursion (Fits plan) views
  pub small : plan.tasks + plan.passes < 2 ^ 63

abbrev pub Kept : Plan → State ℕ Hand → Type 0
Kept plan s = IsKept plan s.words s.views

-- a claim: the word found is claimed if it is a task, else it is found too late; all earlier claims of the seat are below it
abbrev pub Takes : Step ℕ → Me ℕ Hand → ℕ → Me ℕ Hand → Type 0
Takes s v n w =
    (n < v.0.plan.tasks → w ≡ (hand v.0.plan v.0.share (v.0.claims ++ n ∷ []) v.0.late, v.1))
    × (v.0.plan.tasks ≤ n → w ≡ (hand v.0.plan v.0.share v.0.claims (v.0.late ++ n ∷ []), v.1))
    × AllByRecursion (λ c. c < n) v.0.claims

-- a look by a seat with all shares: its claims and late words are all that there are
abbrev pub Looks : Step ℕ → Me ℕ Hand → ℕ → Me ℕ Hand → Type 0
Looks s v n w = (w ≡ v) × (v.0.share ≡ v.0.plan.passes → Told v.0.plan n (λ x. times x v.0.claims) (length v.0.late))

-- a seat of this board with this share, which holds no slot
pub record IsSeatOf (board : Place) (share : ℕ) (id : TableId) (me : Me ℕ Hand) : Type 0 where
  pub id_is : id ≡ board.id
  pub plan_is : me.0.plan ≡ record { tasks = board.tasks; passes = board.passes }
  pub share_is : me.0.share ≡ share
  pub none_out : me.1 ≡ []

-- one that knows nothing yet
pub record IsNewSeat (board : Place) (share : ℕ) (id : TableId) (me : Me ℕ Hand) : Type 0 where
  pub id_is : id ≡ board.id
  pub me_is : me ≡ (hand record { tasks = board.tasks; passes = board.passes } share [] [], [])

-- a seat that took these passes in
pub record Holds (board : Place) (passes : List Turn) (id : TableId) (me : Me ℕ Hand) : Type 0 where
  pub seat : IsSeatOf board (length passes) id me
  pub claims : (x : ℕ) → times x me.0.claims ≡ total (λ p. times x p.claims) passes
  pub late : length me.0.late ≡ total (λ p. length p.late) passes
  pub ascends : AllByRecursion (λ p. IsStrictlyIncreasing p.claims) passes

-- a seat that took in all passes but those that are left
pub record Gathering (board : Place) (all left : List Turn) (id : TableId) (me : Me ℕ Hand) : Type 0 where
  pub taken : List Turn
  pub some : 0 < length taken
  pub all_is : all ≡ left ++ taken
  pub holds : Holds board taken id me

-- n tasks are claimed, if these are all claims and all words found too late
pub record IsCount (board : Place) (claims late : List ℕ) (n : ℕ) : Type 0 where
  pub once : (x : ℕ) → times x claims ≡ once_below x n
  pub most : n ≤ board.tasks
  pub ended : 0 < length late → n ≡ board.tasks
