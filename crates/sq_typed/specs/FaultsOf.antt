-- Which statement is refused, and which of its faults is told, in words that do not go through the statements one by one.
use Rattle.std.specs.Prelude.{◌≡◌, ℕ, Bool, true, false, List, ◌∷◌, ◌++◌, None}
use Rattle.std.specs.List.{AllByRecursion}
use Rattle.sq_ast.specs.declared.statement.Statement.{Statement}
use Rattle.sq_typed.specs.Faults.{first_fault, HasFault}
use Rattle.sq_typed.specs.declared.check_kind.CheckKind.{CheckKind}

-- a member of a list passes a test, and none before it does
pub record IsFirst {A : Type 0} (test : A → Bool) (list : List A) (x : A) : Type 0 where
  pub before : List A
  pub after : List A
  pub split : list ≡ before ++ x ∷ after
  pub fail : AllByRecursion (λ y. test y ≡ false) before
  pub passes : test x ≡ true

-- no statement of the program has a fault behind those before it
abbrev pub HaveNoFault : List Statement → Type 0
HaveNoFault statements = (before after : List Statement) (s : Statement) → statements ≡ before ++ s ∷ after → first_fault before s ≡ None

-- the first statement that has a fault has this number, and this is its first kind
pub record FirstFault (statements : List Statement) (number : ℕ) (kind : CheckKind) : Type 0 where
  pub before : List Statement
  pub after : List Statement
  pub statement : Statement
  pub split : statements ≡ before ++ statement ∷ after
  pub numbered : statement.number ≡ number
  pub fault : HasFault before statement kind
  pub none : HaveNoFault before
