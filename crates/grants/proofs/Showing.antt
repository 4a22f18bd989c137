-- The entry that shows a region. Assumes nothing.
use Rattle.std.proofs.Common.{ℕ, ◌<◌, refl, ap, ◌∙◌, lit<}
use Rattle.book.specs.Books.{Book, Laws}
use Rattle.table.specs.Bounds.{resolved, matching_at}
use Rattle.grants.specs.Regions.{form_of, a_of, top_address}
use Rattle.grants.specs.Shown.{RegionsShown}
use Rattle.grants.specs.declared.region.Form.{Form}
use Rattle.grants.specs.declared.region.Form.TheVariants.{Na4, Napot, Pair}
use Rattle.grants.proofs.Resolution.{shown, fits_from}
use Rattle.grants.proofs.Bytes.{byte_field, byte_permits_lem}

pub a_below : (f : Form) → a_of f < 4
a_below Na4 = lit< tt
a_below Napot = lit< tt
a_below Pair = lit< tt

pub region_shown : (f : ℕ) (b : Book) → Laws b → RegionsShown f b
region_shown f b l t g below fit pair =
    let form = form_of g.base g.length in
    let h = a_below form in
    record {
      bounds = ap (λ (n : ℕ). resolved (matching_at n) (top_address form g.base g.length) below) (byte_field b l g.rights (a_of form) h)
          ∙ shown f g.base g.length (fits_from f g.base g.length fit) below form refl pair;
      rights = byte_permits_lem b l g.rights (a_of form) h;
    }
