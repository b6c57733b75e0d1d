-- What the functions that judge entries answer. Assumes nothing.
use Rattle.std.specs.Prelude.{Result, Ok, IsErrAnd}
use Rattle.std.proofs.lemmas.Result.{err_from_is_err_and}
use Prim.Native.Nat.{ℕ, ◌+◌, ◌≤◌, ◌<◌}
use mathlib.Core.Path.{◌≡◌, refl, sym, ap, ◌∙◌}
use mathlib.Core.List.{List}
use native.Mathlib.Numerals.{add-one}
use native.Mathlib.Omega.{arith}
use lib.ListN.{length}
use Rattle.reply.specs.declared.Refusal.{Refusal}
use Rattle.reply.specs.Reply.{done}
use Rattle.reply.specs.Refusal.{told}
use Rattle.reply.specs.Tries.{first_of, Coded}
use Rattle.reply.proofs.Exactly.{passed}
use Rattle.reply.proofs.Answers.{Left, some_number, each_stop, each_on, each_end}
use Rattle.file.specs.declared.layout.Entry.{Entry}
use Rattle.file.specs.declared.contents.Contents.{Contents}
use Rattle.file.specs.declared.contents.Due.{Due}
use Rattle.file.specs.Layout.{offset_at, size_of}
use Rattle.file.specs.Contents.{count_in, form_in, bodies_at, filed, lent, place_in, entry_in, due_in, offset_in}
use Rattle.file.specs.Tries.{entry_tries, tries_in}
use Rattle.file.specs.Steps.{Listed, Judged}
use Rattle.file.proofs.Codec.{narrow_form}

-- a file's entries and lent ones stand where they are read
pub filed_listed : (f : List ℕ) → bodies_at (form_in f) (count_in f) ≤ length f → Listed (filed f) f
filed_listed f h = record { narrow = narrow_form (form_in f); room = h; begun = h }

pub lent_listed : (es : List ℕ) (run : ℕ) → Listed (lent es run) es
lent_listed es run = record { narrow = record { channels = omega arith; pairs = omega arith; offset = omega arith }; room = omega arith; begun = omega arith }

-- what is tried of an entry has proper codes, and a reply of 0 says that nothing of it holds
pub coded_entry : (c : Contents) (e : Entry) (offset : ℕ) (due : Due) (i : ℕ) → Coded (entry_tries c e offset due i)
coded_entry c e offset due i = search depth 20

module _ (c : Contents) (s : List ℕ) where
  -- what is due of the first entry, and of the next
  pub due_first : due_in c s 0 ≡ record { floor = 0; at = c.start }
  unfolding due_in
  due_first = refl

  pub due_next : (i : ℕ) → due_in c s (i + 1) ≡ record { floor = (entry_in c s i).term + 1; at = (due_in c s i).at + size_of (entry_in c s i) }
  unfolding due_in
  due_next i = rw (add-one i)

  -- What the loop over the entries keeps: what is left to try gives the reply of all.
  pub record Walking (i : ℕ) (due : Due) : Type 0 where
    pub given : Listed c s
    pub due_is : due ≡ due_in c s i
    pub left : Left (tries_in c s) 0 c.count i
    pub in_limit : due.at ≤ c.limit

  pub walking_begun : Listed c s → Walking 0 (record { floor = 0; at = c.start })
  walking_begun L = record { given = L; due_is = sym due_first; left = refl; in_limit = L.begun }

  module _ (i : ℕ) (due : Due) (W : Walking i due) where
    pub walking_done : i ≡ c.count → Judged (Ok due.at) c s
    walking_done h = record {
      told = each_end (tries_in c s) 0 c.count i W.left (omega (arith, h));
      ended = ap (λ (d : Due). d.at) W.due_is ∙ ap (λ (j : ℕ). (due_in c s j).at) h;
      within = W.in_limit;
    }

    module _
        (h : i < c.count) (e : Entry) (offset : ℕ) (he : e ≡ entry_in c s i)
        (ho : offset ≡ offset_at c.widths s (place_in c i) due.at) where
      -- what is tried of entry i as it is read is what is to be tried of it
      tries_is : first_of (entry_tries c e offset due i) ≡ first_of (tries_in c s i)
      tries_is =
          let offset_is : offset ≡ offset_in c s i = ho ∙ ap (λ (d : Due). offset_at c.widths s (place_in c i) d.at) W.due_is in
          λ j. first_of (entry_tries c (he j) (offset_is j) (W.due_is j) i)

      pub walking_stop :
          (r : Result ℕ Refusal) (f : Refusal) → IsErrAnd r (λ y. y ≡ f) → told f ≡ first_of (entry_tries c e offset due i) → Judged r c s
      walking_stop r f z g =
          let p = err_from_is_err_and r z in
          rw (p.1, p.2) (record {
            told = each_stop (tries_in c s) 0 c.count i W.left h (told f) (g ∙ tries_is) (some_number f.reason);
            ended = tt;
            within = tt;
          })

      module _ (g : done ≡ first_of (entry_tries c e offset due i)) where
        walking_room : due.at + size_of e ≤ c.limit
        walking_room = (passed (entry_tries c e offset due i) (coded_entry c e offset due i) done g refl).1.1.1

        pub walking_more : (at : ℕ) → at ≡ due.at + size_of e → Walking (i + 1) (record { floor = e.term + 1; at = at })
        walking_more at ha = record {
          given = W.given;
          due_is =
              (λ j. record { floor = (he j).term + 1; at = (ha ∙ (λ k. (W.due_is k).at + size_of (he k))) j })
              ∙ sym (due_next i);
          left = each_on (tries_in c s) 0 c.count i W.left h done (g ∙ tries_is) refl;
          in_limit = omega (arith, ha, walking_room);
        }

pub ruleset walking = (walking_begun, walking_more, walking_done)
