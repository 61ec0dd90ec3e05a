-- The text of the run, piece by piece.
use Rattle.std.proofs.Common.{◌≡◌, ℕ, ℤ, ◌<◌, List, [], ◌++◌, length, Some, refl, sym, ap, ◌∙◌, append_assoc, append-nil, arith}
use Rattle.std.specs.Prelude.{codes, decimal, pos, slice_get}
use Rattle.std.specs.Fmt.{digits}
use Rattle.std.proofs.lemmas.List.{length-map}
use Rattle.json.specs.Print.{escape_byte}
use Rattle.sq_typed.specs.Views.{views}
use Rattle.sq_sample.specs.Printed.{counts, rows_line, rows_listed, sample_text, ticks_line}
use Rattle.sq_sample.specs.Running.{number_line}
use Rattle.sq_sample.proofs.Printing.{five_views}

-- a text that goes on behind one piece, or behind two
behind : (o p q n s : List ℕ) → p ≡ o ++ q → n ≡ p ++ s → n ≡ o ++ (q ++ s)
behind o p q n s e f = f ∙ ap (λ l. l ++ s) e ∙ append_assoc o q s

behind_two : (o p a x n s : List ℕ) → p ≡ o ++ (a ++ x) → n ≡ p ++ s → n ≡ o ++ (a ++ (x ++ s))
behind_two o p a x n s e f = behind o p (a ++ x) n s e f ∙ ap (λ l. o ++ l) (append_assoc a x s)

pub ticks_told : (x t : ℕ) (o o1 o2 o3 o4 : List ℕ) → o1 ≡ o ++ (codes "{\"sample\":" ++ decimal x) → o2 ≡ o1 ++ (codes ",\"ticks\":" ++ decimal t)
    → o3 ≡ o2 ++ (codes ",\"accepted\":" ++ decimal t) → o4 ≡ o3 ++ codes "}\n" → o4 ≡ o ++ ticks_line x t
ticks_told x t o o1 o2 o3 o4 a b c d =
    behind_two o o1 (codes "{\"sample\":") (decimal x) o4 _ a
    (behind_two o1 o2 (codes ",\"ticks\":") (decimal t) o4 _ b
    (behind_two o2 o3 (codes ",\"accepted\":") (decimal t) o4 _ c d))

pub inside : (x t i : ℕ) (ns : List ℤ) → ns ≡ counts x t → i < 5 → i < length ns
inside x t i ns is low =
    let many = ap length is ∙ length-map (rows_listed x t) (λ n. pos n) ∙ five_views x t in
    omega (arith, many, low)

module _ (n : ℕ) where
  totals_line : number_line (codes "\"totals\"") (pos n) ≡ rows_line (codes "totals") n
  unfolding digits escape_byte
  totals_line = refl

  by_key_line : number_line (codes "\"by_key\"") (pos n) ≡ rows_line (codes "by_key") n
  unfolding digits escape_byte
  by_key_line = refl

  by_group_line : number_line (codes "\"by_group\"") (pos n) ≡ rows_line (codes "by_group") n
  unfolding digits escape_byte
  by_group_line = refl

  unused_line : number_line (codes "\"unused\"") (pos n) ≡ rows_line (codes "unused") n
  unfolding digits escape_byte
  unused_line = refl

  seen_line : number_line (codes "\"seen\"") (pos n) ≡ rows_line (codes "seen") n
  unfolding digits escape_byte
  seen_line = refl

module _ (x t : ℕ) (ns : List ℤ) (is : ns ≡ counts x t) where
  line_told : (i n : ℕ) (quoted name o p : List ℕ) → slice_get (counts x t) i ≡ Some (pos n) → number_line quoted (pos n) ≡ rows_line name n
      → ((m : ℤ) → slice_get ns i ≡ Some m → p ≡ o ++ number_line quoted m) → p ≡ o ++ rows_line name n
  line_told i n quoted name o p at same told = told (pos n) (ap (λ l. slice_get l i) is ∙ at) ∙ ap (λ l. o ++ l) same

  pub text_told : (o o0 o1 o2 o3 o4 o5 : List ℕ) → o ≡ [] → o0 ≡ o ++ ticks_line x t
      → ((m : ℤ) → slice_get ns 0 ≡ Some m → o1 ≡ o0 ++ number_line (codes "\"totals\"") m)
      → ((m : ℤ) → slice_get ns 1 ≡ Some m → o2 ≡ o1 ++ number_line (codes "\"by_key\"") m)
      → ((m : ℤ) → slice_get ns 2 ≡ Some m → o3 ≡ o2 ++ number_line (codes "\"by_group\"") m)
      → ((m : ℤ) → slice_get ns 3 ≡ Some m → o4 ≡ o3 ++ number_line (codes "\"unused\"") m)
      → ((m : ℤ) → slice_get ns 4 ≡ Some m → o5 ≡ o4 ++ number_line (codes "\"seen\"") m)
      → o5 ≡ sample_text x t
  unfolding views
  text_told o o0 o1 o2 o3 o4 o5 none head a b c d e =
      behind o o0 (ticks_line x t) o5 _ head
      (behind o0 o1 _ o5 _ (line_told 0 _ (codes "\"totals\"") (codes "totals") o0 o1 refl (totals_line _) a)
      (behind o1 o2 _ o5 _ (line_told 1 _ (codes "\"by_key\"") (codes "by_key") o1 o2 refl (by_key_line _) b)
      (behind o2 o3 _ o5 _ (line_told 2 _ (codes "\"by_group\"") (codes "by_group") o2 o3 refl (by_group_line _) c)
      (behind o3 o4 _ o5 _ (line_told 3 _ (codes "\"unused\"") (codes "unused") o3 o4 refl (unused_line _) d)
      (line_told 4 _ (codes "\"seen\"") (codes "seen") o4 o5 refl (seen_line _) e ∙ ap (λ l. o4 ++ l) (sym (append-nil _)))))))
      ∙ ap (λ l. l ++ sample_text x t) none
