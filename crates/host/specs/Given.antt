-- What a host gives of a frame that is to be written, in the form in which one that was read is told. What a slice is too short for is 0.
use Rattle.std.specs.Prelude.{ℕ, List, get_or, replicate, ℤ}
use Rattle.std.proofs.lemmas.List.Edits.{sets}
use Rattle.side_info.specs.declared.SideInfo.{SideInfo}
use Rattle.frame_writer.specs.Frame.{Content}

-- the nineteen numbers of the side information, in the order of `words_of`
abbrev pub side_of : List ℕ → SideInfo
side_of words =
    record {
      bandwidth = get_or words 0 0;
      lastnz = get_or words 1 0;
      lsb = get_or words 2 0;
      gain = get_or words 3 0;
      tns_first = get_or words 4 0;
      tns_second = get_or words 5 0;
      pitch = get_or words 6 0;
      sns =
          record {
            lf = get_or words 7 0;
            hf = get_or words 8 0;
            msb = get_or words 9 0;
            submode_lsb = get_or words 10 0;
            gain = get_or words 11 0;
            ls_inda = get_or words 12 0;
            idx_a = get_or words 13 0;
            ls_indb = get_or words 14 0;
            idx_b = get_or words 15 0;
          };
      active = get_or words 16 0;
      index = get_or words 17 0;
      noise = get_or words 18 0;
    }

-- the sixteen places of the TNS indices
abbrev pub places_of : List ℕ → List ℕ
places_of indices = sets (replicate 16 0) 0 indices

abbrev pub content_of : List ℕ → ℕ → ℕ → List ℕ → List ℤ → List ℕ → Content
content_of words first second indices lines residual =
    record {
      side = side_of words;
      first = first;
      second = second;
      indices = places_of indices;
      lines = lines;
      residual = residual;
    }
