-- What the code that shifts makes of each form, and that the columns of each part have room.
use Rattle.std.proofs.Common.{◌≡◌, ℕ, ◌+◌, ◌<◌, ◌^◌, Bool, List, map, ap, sym, ◌∙◌, subst}
use Rattle.std.specs.List.{AllByRecursion}
use Rattle.sq_expr.specs.declared.cond.Cmp.{Cmp}
use Rattle.sq_expr.specs.declared.cond.Cond.{Cond}
use Rattle.sq_expr.specs.declared.cond.Cond.TheVariants as cond
use Rattle.sq_expr.specs.declared.expr.Expr.{Expr}
use Rattle.sq_expr.specs.declared.expr.Expr.TheVariants as expr
use Rattle.sq_expr.specs.declared.expr.Term.{Term}
use Rattle.sq_expr.specs.Columns.{columns, cond_columns}
use Rattle.sq_expr.specs.Shifted.{shifted, shifted_term, shifted_cond, HasRoom}
use Rattle.sq_expr.proofs.Equations.{columns-Column, columns-Neg, columns-Sum, columns-Product, cond_columns-Compare, cond_columns-Null, cond_columns-Not, cond_columns-All, cond_columns-Any}
use Rattle.sq_expr.proofs.Lists.{all_front, all_back, all_flat}
use Rattle.sq_expr.proofs.Shifts.{shifted-Column, shifted-Number, shifted-Text, shifted-Neg, shifted-Sum, shifted-Product, shifted_term-is, shifted_cond-Compare, shifted_cond-Null, shifted_cond-Not, shifted_cond-All, shifted_cond-Any}

module _ (by : ℕ) where
  pub column_shifted : (e : Expr) (n : ℕ) → e ≡ expr.Column n → expr.Column (by + n) ≡ shifted by e
  column_shifted e n is = sym (ap (shifted by) is ∙ shifted-Column by n)

  pub number_shifted : (e : Expr) (n : ℕ) → e ≡ expr.Number n → expr.Number n ≡ shifted by e
  number_shifted e n is = sym (ap (shifted by) is ∙ shifted-Number by n)

  pub text_shifted : (e : Expr) (t copy : List ℕ) → e ≡ expr.Text t → copy ≡ t → expr.Text copy ≡ shifted by e
  text_shifted e t copy is same = ap expr.Text same ∙ sym (ap (shifted by) is ∙ shifted-Text by t)

  pub neg_shifted : (e operand given x : Expr) → e ≡ expr.Neg operand → given ≡ operand → x ≡ shifted by given → expr.Neg x ≡ shifted by e
  neg_shifted e operand given x is same part = ap expr.Neg (part ∙ ap (shifted by) same) ∙ sym (ap (shifted by) is ∙ shifted-Neg by operand)

  pub sum_shifted : (e : Expr) (ts xs : List Term) → e ≡ expr.Sum ts → xs ≡ map (shifted_term by) ts → expr.Sum xs ≡ shifted by e
  sum_shifted e ts xs is parts = ap expr.Sum parts ∙ sym (ap (shifted by) is ∙ shifted-Sum by ts)

  pub product_shifted : (e : Expr) (es xs : List Expr) → e ≡ expr.Product es → xs ≡ map (shifted by) es → expr.Product xs ≡ shifted by e
  product_shifted e es xs is parts = ap expr.Product parts ∙ sym (ap (shifted by) is ∙ shifted-Product by es)

  pub term_shifted : (t : Term) (x : Expr) → x ≡ shifted by t.expr → record { minus = t.minus; expr = x } ≡ shifted_term by t
  term_shifted t x part = ap (λ (e : Expr). record { minus = t.minus; expr = e }) part ∙ sym (shifted_term-is by t)

  pub compare_shifted : (c : Cond) (cmp : Cmp) (left right x y : Expr) → c ≡ cond.Compare cmp left right → x ≡ shifted by left → y ≡ shifted by right → cond.Compare cmp x y ≡ shifted_cond by c
  compare_shifted c cmp left right x y is first second =
      ap (λ e. cond.Compare cmp e y) first ∙ ap (cond.Compare cmp (shifted by left)) second ∙ sym (ap (shifted_cond by) is ∙ shifted_cond-Compare by cmp left right)

  pub null_shifted : (c : Cond) (e x : Expr) (negated : Bool) → c ≡ cond.Null e negated → x ≡ shifted by e → cond.Null x negated ≡ shifted_cond by c
  null_shifted c e x negated is part = ap (λ e. cond.Null e negated) part ∙ sym (ap (shifted_cond by) is ∙ shifted_cond-Null by e negated)

  pub not_shifted : (c operand given x : Cond) → c ≡ cond.Not operand → given ≡ operand → x ≡ shifted_cond by given → cond.Not x ≡ shifted_cond by c
  not_shifted c operand given x is same part = ap cond.Not (part ∙ ap (shifted_cond by) same) ∙ sym (ap (shifted_cond by) is ∙ shifted_cond-Not by operand)

  pub all_shifted : (c : Cond) (cs xs : List Cond) → c ≡ cond.All cs → xs ≡ map (shifted_cond by) cs → cond.All xs ≡ shifted_cond by c
  all_shifted c cs xs is parts = ap cond.All parts ∙ sym (ap (shifted_cond by) is ∙ shifted_cond-All by cs)

  pub any_shifted : (c : Cond) (cs xs : List Cond) → c ≡ cond.Any cs → xs ≡ map (shifted_cond by) cs → cond.Any xs ≡ shifted_cond by c
  any_shifted c cs xs is parts = ap cond.Any parts ∙ sym (ap (shifted_cond by) is ∙ shifted_cond-Any by cs)

  -- ---- room

  pub column_room : (e : Expr) (n : ℕ) → e ≡ expr.Column n → HasRoom by (columns e) → by + n < 2 ^ 32
  column_room e n is room = (subst (HasRoom by) (ap columns is ∙ columns-Column n) room).0

  pub neg_room : (e operand given : Expr) → e ≡ expr.Neg operand → given ≡ operand → HasRoom by (columns e) → HasRoom by (columns given)
  neg_room e operand given is same room = subst (HasRoom by) (ap columns is ∙ columns-Neg operand ∙ ap columns (sym same)) room

  pub sum_room : (e : Expr) (ts : List Term) → e ≡ expr.Sum ts → HasRoom by (columns e) → AllByRecursion (λ t. HasRoom by (columns t.expr)) ts
  sum_room e ts is room = all_flat (λ n. by + n < 2 ^ 32) (λ t. columns t.expr) ts (subst (HasRoom by) (ap columns is ∙ columns-Sum ts) room)

  pub product_room : (e : Expr) (es : List Expr) → e ≡ expr.Product es → HasRoom by (columns e) → AllByRecursion (λ e. HasRoom by (columns e)) es
  product_room e es is room = all_flat (λ n. by + n < 2 ^ 32) columns es (subst (HasRoom by) (ap columns is ∙ columns-Product es) room)

  pub left_room : (c : Cond) (cmp : Cmp) (left right : Expr) → c ≡ cond.Compare cmp left right → HasRoom by (cond_columns c) → HasRoom by (columns left)
  left_room c cmp left right is room = all_front (λ n. by + n < 2 ^ 32) (columns left) (columns right) (subst (HasRoom by) (ap cond_columns is ∙ cond_columns-Compare cmp left right) room)

  pub right_room : (c : Cond) (cmp : Cmp) (left right : Expr) → c ≡ cond.Compare cmp left right → HasRoom by (cond_columns c) → HasRoom by (columns right)
  right_room c cmp left right is room = all_back (λ n. by + n < 2 ^ 32) (columns left) (columns right) (subst (HasRoom by) (ap cond_columns is ∙ cond_columns-Compare cmp left right) room)

  pub null_room : (c : Cond) (e : Expr) (negated : Bool) → c ≡ cond.Null e negated → HasRoom by (cond_columns c) → HasRoom by (columns e)
  null_room c e negated is room = subst (HasRoom by) (ap cond_columns is ∙ cond_columns-Null e negated) room

  pub not_room : (c operand given : Cond) → c ≡ cond.Not operand → given ≡ operand → HasRoom by (cond_columns c) → HasRoom by (cond_columns given)
  not_room c operand given is same room = subst (HasRoom by) (ap cond_columns is ∙ cond_columns-Not operand ∙ ap cond_columns (sym same)) room

  pub all_room : (c : Cond) (cs : List Cond) → c ≡ cond.All cs → HasRoom by (cond_columns c) → AllByRecursion (λ c. HasRoom by (cond_columns c)) cs
  all_room c cs is room = all_flat (λ n. by + n < 2 ^ 32) cond_columns cs (subst (HasRoom by) (ap cond_columns is ∙ cond_columns-All cs) room)

  pub any_room : (c : Cond) (cs : List Cond) → c ≡ cond.Any cs → HasRoom by (cond_columns c) → AllByRecursion (λ c. HasRoom by (cond_columns c)) cs
  any_room c cs is room = all_flat (λ n. by + n < 2 ^ 32) cond_columns cs (subst (HasRoom by) (ap cond_columns is ∙ cond_columns-Any cs) room)

pub room_of_column : (by n : ℕ) → by + n < 2 ^ 32 → HasRoom by (columns (expr.Column n))
room_of_column by n room = subst (HasRoom by) (sym (columns-Column n)) (room, tt)

pub room_of_null : (by : ℕ) (e : Expr) (negated : Bool) → HasRoom by (columns e) → HasRoom by (cond_columns (cond.Null e negated))
room_of_null by e negated room = subst (HasRoom by) (sym (cond_columns-Null e negated)) room
