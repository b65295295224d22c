-- Parts written one after the other. Assumes nothing.
use Rattle.std.proofs.Common.{◌≡◌, ℕ, ◌+◌, ◌-◌, ◌*◌, ◌<◌, ◌≤◌, List, [], ◌∷◌, ◌++◌, length, get_or, take, drop, sym, refl, ap, ◌∙◌, subst, arith, length-append, length-drop}
use borrow.Rule.Slice.PartMut.{put_mid}
use Rattle.message_write.specs.Put.{Put, Puts}
use Rattle.message_write.specs.Written.{numbers_bytes}
use Rattle.message_write.specs.declared.Writer.{Writer}
use Rattle.wire.specs.Bytes.{bytes32}
use Rattle.std.proofs.lemmas.List.{append_assoc, append-nil, take_all, take_more, length-take-le, take_at, drop_at, drop-drop}

module _ (place end : ℕ) (bytes before after : List ℕ) (e : end ≡ place + length bytes) (h : end ≤ length before) (a : after ≡ take place before ++ (bytes ++ drop end before)) where
  first : length (take place before ++ bytes) ≡ end
  first = omega (arith, length-append (take place before) bytes, length-take-le place before (omega arith))

  whole : after ≡ (take place before ++ bytes) ++ drop end before
  whole = a ∙ sym (append_assoc (take place before) bytes (drop end before))

  put : Put place bytes before after end
  put = record {
    ended = e;
    sized = omega (arith, ap length whole, length-append (take place before ++ bytes) (drop end before), length-drop end before, first);
    front = ap (take end) whole ∙ take_at (take place before ++ bytes) (drop end before) end first;
    behind = λ n l.
        let past : n ≡ end + (n - end) = omega arith in
        ap (λ k. drop k after) past ∙ sym (drop-drop (n - end) end after) ∙ ap (drop (n - end)) (ap (drop end) whole ∙ drop_at (take place before ++ bytes) (drop end before) end first) ∙ drop-drop (n - end) end before ∙ ap (λ k. drop k before) (sym past);
  }

-- a part of the buffer that was copied over
pub put_part : (place : ℕ) (bytes before part : List ℕ) → part ≡ bytes → place + length bytes ≤ length before → Put place bytes before (put_mid place (place + length bytes - place) before part) (place + length bytes)
put_part place bytes before part e h =
    let all : place + (place + length bytes - place) ≡ place + length bytes = omega arith in
    put place (place + length bytes) bytes before _ refl h
    (ap (λ y. take place before ++ (y ++ drop (place + length bytes - place) (drop place before))) e ∙ ap (λ t. take place before ++ (bytes ++ t)) (drop-drop (place + length bytes - place) place before ∙ ap (λ n. drop n before) all))

join_put : (place end last : ℕ) (x y a b c : List ℕ) → Put place x a b end → Put end y b c last → Put place (x ++ y) a c last
join_put place end last x y a b c p q = record {
  ended = omega (arith, p.ended, q.ended, length-append x y);
  sized = q.sized ∙ p.sized;
  front = q.front ∙ ap (λ l. l ++ y) p.front ∙ append_assoc (take place a) x y;
  behind = λ n l. q.behind n l ∙ p.behind n (omega (arith, p.ended, q.ended));
}

-- one part after the other
pub join : (a b c : Writer) (x y z : List ℕ) → Puts x a b → Puts y b c → z ≡ x ++ y → Puts z a c
join a b c x y z p q e = record {
  put = subst (λ bs. Put a.end bs a.buffer.now c.buffer.now c.end) (sym e) (join_put a.end b.end c.end x y a.buffer.now b.buffer.now c.buffer.now p.put q.put);
  same = q.same ∙ p.same;
}

numbers_push : (ns : List ℕ) (n : ℕ) → numbers_bytes (ns ++ (n ∷ [])) ≡ numbers_bytes ns ++ bytes32 n
unfolding numbers_bytes
numbers_push [] n = refl
numbers_push (x ∷ ns) n = ap (λ l. bytes32 x ++ l) (numbers_push ns n)

pub numbers_long : (ns : List ℕ) → length (numbers_bytes ns) ≡ 4 * length ns
unfolding numbers_bytes
numbers_long [] = refl
numbers_long (n ∷ ns) = let more = numbers_long ns in omega arith

-- numbers written one by one
pub numbers_none : (a : Writer) (ns : List ℕ) → a.end ≤ length a.buffer.now → Puts (numbers_bytes (take 0 ns)) a a
unfolding numbers_bytes
numbers_none a ns h = record { put = record { ended = omega arith; sized = refl; front = sym (append-nil (take a.end a.buffer.now)); behind = λ n l. refl }; same = refl }

pub numbers_more : (a b c : Writer) (i : ℕ) (ns : List ℕ) → i < length ns → Puts (numbers_bytes (take i ns)) a b → Puts (bytes32 (get_or ns i 0)) b c → Puts (numbers_bytes (take (i + 1) ns)) a c
numbers_more a b c i ns h p q =
    join a b c (numbers_bytes (take i ns)) (bytes32 (get_or ns i 0)) _ p q (ap numbers_bytes (take_more ns i 0 h) ∙ numbers_push (take i ns) (get_or ns i 0))

pub numbers_all : (ns : List ℕ) → take (length ns) ns ≡ ns
numbers_all ns = take_all (length ns) ns (omega arith)

pub front_long : (ns : List ℕ) (i : ℕ) → i ≤ length ns → length (numbers_bytes (take i ns)) ≡ 4 * i
front_long ns i h = numbers_long (take i ns) ∙ ap (λ n. 4 * n) (length-take-le i ns h)

pub ruleset numbering = (numbers_none, numbers_more, numbers_all, front_long)

pub nothing : (a : Writer) → Puts [] a a
nothing a = record { put = record { ended = omega arith; sized = refl; front = sym (append-nil (take a.end a.buffer.now)); behind = λ n l. refl }; same = refl }

-- five parts, one after the other
pub join_five : (a b c d e f : Writer) (v w x y z : List ℕ) → Puts v a b → Puts w b c → Puts x c d → Puts y d e → Puts z e f → Puts (v ++ (w ++ (x ++ (y ++ z)))) a f
join_five a b c d e f v w x y z h i j k l = join a b f v _ _ h (join b c f w _ _ i (join c d f x _ _ j (join d e f y z _ k l refl) refl) refl) refl

-- the same bytes by another name
pub put_same : (a b : Writer) (x y : List ℕ) → x ≡ y → Puts x a b → Puts y a b
put_same a b x y e p = subst (λ bs. Puts bs a b) e p

-- parts with a row of numbers
pub ruleset parts = (join, numbers_long)
