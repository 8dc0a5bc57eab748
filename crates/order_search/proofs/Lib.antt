mod TipPieces
