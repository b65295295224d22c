-- What stands between tokens changes nothing but their places. Assumes nothing.
use Rattle.std.proofs.Common.{◌≡◌, ℕ, ◌+◌, Bool, true, false, eqb, List, [], ◌∷◌, ◌++◌, sym, refl, ap, ◌∙◌, arith}
use Rattle.std.proofs.lemmas.Bool.Decides.{nat_tests}
use Rattle.text_tokens.specs.declared.Class.{Class}
use Rattle.text_tokens.specs.declared.Class.TheVariants.{Blank, LineEnd, Hash, Letter}
use Rattle.text_tokens.specs.declared.Class.TheVariants as a_class
use Rattle.text_tokens.specs.declared.Sign as a_sign
use Rattle.text_tokens.specs.Spacing.{IsBlank, SpacingLaws, is_one_line, unplaced}
use Rattle.text_tokens.specs.Tokens.{Source, More, Mode, Between, Comment, InWord, Kind, Word, Sign, after, class_of, scan, whole}

abbrev token : Bool → Kind → Source → Source
token fresh k rest = More (record { at = 0; fresh = fresh; kind = k }) rest

-- a word that was begun elsewhere
abbrev restart : ℕ → Mode → Mode
restart s (Between f) = Between f
restart s (Comment f) = Comment f
restart s (InWord start f w) = InWord s f w

module _ (x y : Mode → Source) (alike : (m : Mode) (s : ℕ) → unplaced (x m) ≡ unplaced (y (restart s m))) where
  one : (m : Mode) (s n k b : ℕ) (c : Class) → unplaced (whole m n c (x (after m n b c))) ≡ unplaced (whole (restart s m) k c (y (after (restart s m) k b c)))
  unfolding unplaced
  one (Between f) s n k b Blank = alike (Between f) 0
  one (Between f) s n k b LineEnd = alike (Between true) 0
  one (Between f) s n k b Hash = alike (Comment f) 0
  one (Between f) s n k b (a_class.Sign g) = ap (token f (Sign g)) (alike (Between false) 0)
  one (Between f) s n k b Letter = alike (InWord n f (b ∷ [])) k
  one (Comment f) s n k b Blank = alike (Comment f) 0
  one (Comment f) s n k b LineEnd = alike (Between true) 0
  one (Comment f) s n k b Hash = alike (Comment f) 0
  one (Comment f) s n k b (a_class.Sign g) = alike (Comment f) 0
  one (Comment f) s n k b Letter = alike (Comment f) 0
  one (InWord start f w) s n k b Blank = ap (token f (Word w)) (alike (Between false) 0)
  one (InWord start f w) s n k b LineEnd = ap (token f (Word w)) (alike (Between true) 0)
  one (InWord start f w) s n k b Hash = ap (token f (Word w)) (alike (Comment false) 0)
  one (InWord start f w) s n k b (a_class.Sign g) = ap (λ r. token f (Word w) (token false (Sign g) r)) (alike (Between false) 0)
  one (InWord start f w) s n k b Letter = alike (InWord start f (w ++ (b ∷ []))) s

-- where reading begins does not matter
shift : (bs : List ℕ) (m : Mode) (s n k : ℕ) → unplaced (scan m n bs) ≡ unplaced (scan (restart s m) k bs)
unfolding scan unplaced
shift [] (Between f) s n k = refl
shift [] (Comment f) s n k = refl
shift [] (InWord start f w) s n k = refl
shift (b ∷ bs) m s n k = one (λ m'. scan m' (n + 1) bs) (λ m'. scan m' (k + 1) bs) (λ m' s'. shift bs m' s' (n + 1) (k + 1)) m s n k b (class_of b)

-- what is the same in every mode is the same behind any text
behind : (p q : List ℕ) → ((m : Mode) (s n k : ℕ) → unplaced (scan m n p) ≡ unplaced (scan (restart s m) k q)) → (a : List ℕ) (m : Mode) (s n k : ℕ) → unplaced (scan m n (a ++ p)) ≡ unplaced (scan (restart s m) k (a ++ q))
unfolding scan
behind p q h [] m s n k = h m s n k
behind p q h (b ∷ a) m s n k = one (λ m'. scan m' (n + 1) (a ++ p)) (λ m'. scan m' (k + 1) (a ++ q)) (λ m' s'. behind p q h a m' s' (n + 1) (k + 1)) m s n k b (class_of b)

-- one byte, by its class
byte : (m : Mode) (n x : ℕ) (b : List ℕ) (c : Class) → class_of x ≡ c → scan m n (x ∷ b) ≡ whole m n c (scan (after m n x c) (n + 1) b)
unfolding scan
byte m n x b c e = ap (λ d. whole m n d (scan (after m n x d) (n + 1) b)) e

module _ (b : List ℕ) (x : ℕ) (blank : IsBlank x) where
  on_blank : (m : Mode) (n : ℕ) → unplaced (scan m n (x ∷ b)) ≡ unplaced (whole m n Blank (scan (after m n x Blank) (n + 1) b))
  on_blank m n = ap unplaced (byte m n x b Blank blank)

  blank_between : (f : Bool) (n k : ℕ) → unplaced (scan (Between f) n (x ∷ b)) ≡ unplaced (scan (Between f) k b)
  blank_between f n k = on_blank (Between f) n ∙ shift b (Between f) 0 (n + 1) k

  blank_comment : (f : Bool) (n k : ℕ) → unplaced (scan (Comment f) n (x ∷ b)) ≡ unplaced (scan (Comment f) k b)
  blank_comment f n k = on_blank (Comment f) n ∙ shift b (Comment f) 0 (n + 1) k

  blank_word : (start : ℕ) (f : Bool) (w : List ℕ) (n k : ℕ) → unplaced (scan (InWord start f w) n (x ∷ b)) ≡ token f (Word w) (unplaced (scan (Between false) k b))
  unfolding unplaced
  blank_word start f w n k = on_blank (InWord start f w) n ∙ ap (token f (Word w)) (shift b (Between false) 0 (n + 1) k)

blanks : (b : List ℕ) (x y z : ℕ) → IsBlank x → IsBlank y → IsBlank z → (m : Mode) (s n k : ℕ) → unplaced (scan m n (x ∷ (y ∷ b))) ≡ unplaced (scan (restart s m) k (z ∷ b))
blanks b x y z hx hy hz (Between f) s n k = blank_between (y ∷ b) x hx f n 0 ∙ blank_between b y hy f 0 0 ∙ sym (blank_between b z hz f k 0)
blanks b x y z hx hy hz (Comment f) s n k = blank_comment (y ∷ b) x hx f n 0 ∙ blank_comment b y hy f 0 0 ∙ sym (blank_comment b z hz f k 0)
blanks b x y z hx hy hz (InWord start f w) s n k = blank_word (y ∷ b) x hx start f w n 0 ∙ ap (token f (Word w)) (blank_between b y hy false 0 0) ∙ sym (blank_word b z hz s f w k 0)

-- the end of a line, in each mode
line : (b : List ℕ) (m : Mode) (n k : ℕ) → unplaced (scan m n (10 ∷ b)) ≡ unplaced (whole m k LineEnd (scan (Between true) k b))
unfolding scan unplaced
line b (Between f) n k = shift b (Between true) 0 (n + 1) k
line b (Comment f) n k = shift b (Between true) 0 (n + 1) k
line b (InWord start f w) n k = ap (token f (Word w)) (shift b (Between true) 0 (n + 1) k)

-- what is passed over at the start of a line
fresh_line : (p b : List ℕ) → ((n k : ℕ) → unplaced (scan (Between true) n p) ≡ unplaced (scan (Between true) k b)) → (m : Mode) (s n k : ℕ) → unplaced (scan m n (10 ∷ p)) ≡ unplaced (scan (restart s m) k (10 ∷ b))
unfolding unplaced
fresh_line p b h (Between f) s n k = line p (Between f) n 0 ∙ h 0 0 ∙ sym (line b (Between f) k 0)
fresh_line p b h (Comment f) s n k = line p (Comment f) n 0 ∙ h 0 0 ∙ sym (line b (Comment f) k 0)
fresh_line p b h (InWord start f w) s n k = line p (InWord start f w) n 0 ∙ ap (token f (Word w)) (h 0 0) ∙ sym (line b (InWord s f w) k 0)

line_end : (b : List ℕ) (x : ℕ) → IsBlank x → (m : Mode) (s n k : ℕ) → unplaced (scan m n (x ∷ (10 ∷ b))) ≡ unplaced (scan (restart s m) k (10 ∷ b))
unfolding unplaced
line_end b x h (Between f) s n k = blank_between (10 ∷ b) x h f n k
line_end b x h (Comment f) s n k = blank_comment (10 ∷ b) x h f n k
line_end b x h (InWord start f w) s n k = blank_word (10 ∷ b) x h start f w n 0 ∙ ap (token f (Word w)) (line b (Between false) 0 0) ∙ sym (line b (InWord s f w) k 0)

module _ (b : List ℕ) (y : ℕ) (g : a_sign.Sign) (sign : class_of y ≡ a_class.Sign g) where
  sign_between : (f : Bool) (n k : ℕ) → unplaced (scan (Between f) n (y ∷ b)) ≡ token f (Sign g) (unplaced (scan (Between false) k b))
  unfolding unplaced
  sign_between f n k = ap unplaced (byte (Between f) n y b (a_class.Sign g) sign) ∙ ap (token f (Sign g)) (shift b (Between false) 0 (n + 1) k)

  sign_comment : (f : Bool) (n k : ℕ) → unplaced (scan (Comment f) n (y ∷ b)) ≡ unplaced (scan (Comment f) k b)
  unfolding unplaced
  sign_comment f n k = ap unplaced (byte (Comment f) n y b (a_class.Sign g) sign) ∙ shift b (Comment f) 0 (n + 1) k

  sign_word : (start : ℕ) (f : Bool) (w : List ℕ) (n k : ℕ) → unplaced (scan (InWord start f w) n (y ∷ b)) ≡ token f (Word w) (token false (Sign g) (unplaced (scan (Between false) k b)))
  unfolding unplaced
  sign_word start f w n k = ap unplaced (byte (InWord start f w) n y b (a_class.Sign g) sign) ∙ ap (λ r. token f (Word w) (token false (Sign g) r)) (shift b (Between false) 0 (n + 1) k)

before_sign : (b : List ℕ) (x y : ℕ) (g : a_sign.Sign) → IsBlank x → class_of y ≡ a_class.Sign g → (m : Mode) (s n k : ℕ) → unplaced (scan m n (x ∷ (y ∷ b))) ≡ unplaced (scan (restart s m) k (y ∷ b))
before_sign b x y g h e (Between f) s n k = blank_between (y ∷ b) x h f n k
before_sign b x y g h e (Comment f) s n k = blank_comment (y ∷ b) x h f n k
before_sign b x y g h e (InWord start f w) s n k = blank_word (y ∷ b) x h start f w n 0 ∙ ap (token f (Word w)) (sign_between b y g e false 0 0) ∙ sym (sign_word b y g e s f w k 0)

behind_sign : (b : List ℕ) (x y : ℕ) (g : a_sign.Sign) → IsBlank x → class_of y ≡ a_class.Sign g → (m : Mode) (s n k : ℕ) → unplaced (scan m n (y ∷ (x ∷ b))) ≡ unplaced (scan (restart s m) k (y ∷ b))
behind_sign b x y g h e (Between f) s n k = sign_between (x ∷ b) y g e f n 0 ∙ ap (token f (Sign g)) (blank_between b x h false 0 0) ∙ sym (sign_between b y g e f k 0)
behind_sign b x y g h e (Comment f) s n k = sign_comment (x ∷ b) y g e f n 0 ∙ blank_comment b x h f 0 0 ∙ sym (sign_comment b y g e f k 0)
behind_sign b x y g h e (InWord start f w) s n k = sign_word (x ∷ b) y g e start f w n 0 ∙ ap (λ r. token f (Word w) (token false (Sign g) r)) (blank_between b x h false 0 0) ∙ sym (sign_word b y g e s f w k 0)

-- a comment goes on over every byte but the end of its line
goes_on : (f : Bool) (n x : ℕ) (c : Class) → (c ≡ LineEnd → ⊥) → after (Comment f) n x c ≡ Comment f
goes_on f n x Blank h = refl
goes_on f n x LineEnd h = absurd (h refl)
goes_on f n x Hash h = refl
goes_on f n x (a_class.Sign g) h = refl
goes_on f n x Letter h = refl

no_line_end : (x : ℕ) → eqb x 10 ≡ false → class_of x ≡ LineEnd → ⊥
no_line_end x h e = grind (arith, nat_tests)

in_comment : (c b : List ℕ) (f : Bool) (n k : ℕ) → is_one_line c ≡ true → unplaced (scan (Comment f) n (c ++ b)) ≡ unplaced (scan (Comment f) k b)
unfolding scan is_one_line
in_comment [] b f n k h = shift b (Comment f) 0 n k
in_comment (x ∷ c) b f n k h =
    let ordinary : eqb x 10 ≡ false = grind arith in
    let rest : is_one_line c ≡ true = grind arith in
    ap (λ m. unplaced (scan m (n + 1) (c ++ b))) (goes_on f n x (class_of x) (no_line_end x ordinary)) ∙ in_comment c b f (n + 1) k rest

comment : (c b : List ℕ) → is_one_line c ≡ true → (m : Mode) (s n k : ℕ) → unplaced (scan m n (35 ∷ (c ++ (10 ∷ b)))) ≡ unplaced (scan (restart s m) k (10 ∷ b))
unfolding scan unplaced
comment c b h (Between f) s n k = in_comment c (10 ∷ b) f (n + 1) 0 h ∙ line b (Comment f) 0 0 ∙ sym (line b (Between f) k 0)
comment c b h (Comment f) s n k = in_comment c (10 ∷ b) f (n + 1) 0 h ∙ line b (Comment f) 0 0 ∙ sym (line b (Comment f) k 0)
comment c b h (InWord start f w) s n k = ap (token f (Word w)) (in_comment c (10 ∷ b) false (n + 1) 0 h ∙ line b (Comment false) 0 0) ∙ sym (line b (InWord s f w) k 0)

pub spacing : SpacingLaws
spacing = record {
  comment = λ a c b h. behind _ _ (comment c b h) a (Between true) 0 0 0;
  blank_line = λ a b. behind _ _ (fresh_line (10 ∷ b) b (λ n k. line b (Between true) n k)) a (Between true) 0 0 0;
  blanks = λ a b x y z hx hy hz. behind _ _ (blanks b x y z hx hy hz) a (Between true) 0 0 0;
  line_start = λ a b x h. behind _ _ (fresh_line (x ∷ b) b (λ n k. blank_between b x h true n k)) a (Between true) 0 0 0;
  line_end = λ a b x h. behind _ _ (line_end b x h) a (Between true) 0 0 0;
  before_sign = λ a b x y s h e. behind _ _ (before_sign b x y s h e) a (Between true) 0 0 0;
  behind_sign = λ a b x y s h e. behind _ _ (behind_sign b x y s h e) a (Between true) 0 0 0;
}
